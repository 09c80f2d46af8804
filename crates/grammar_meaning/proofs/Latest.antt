-- The last name of a line begins no earlier than the reading has come.
use Rattle.std.proofs.Common.{◌≡◌, ℕ, zero, suc, ◌+◌, ◌≤◌, List, [], ◌∷◌, ◌++◌, ap, subst, ⊎_elim, arith}
use Rattle.std.proofs.lemmas.List.{same_from_push}
use Rattle.grammar.specs.Grammar.{Named, named}
use Rattle.grammar.specs.Reading.{fresh, in_word, closed, State, start, comment, in_name, spaced, signed, parted, stuck, step, Memory, all_names, remember, Outcome, lawful, over}
use Rattle.grammar_meaning.proofs.Lists.{not_empty}
use Rattle.grammar_meaning.proofs.Moves.{Goes, hashed, started, noted, word_begins, word_goes_on, opens, argument_ends, closes, first_ends, base_ends, signs, sign_ends, gap_ends, leads}
use Rattle.grammar_meaning.proofs.Freely.{freely}
use Rattle.grammar_meaning.proofs.Accepted.{freely_stuck}

-- the last name begins there at the earliest
abbrev pub since : State → Memory → ℕ → ℕ
since start m c = m.from
since comment m c = c
since (in_name p k d) m c = m.from
since spaced m c = c
since signed m c = c
since parted m c = c
since stuck m c = c

since_on : {s t : State} {b : ℕ} (m : Memory) (c : ℕ) → m.from ≤ c → Goes s b t → since s m c ≤ since t (remember t m c b) (c + 1)
since_on m c h hashed = omega arith
since_on m c h (started e) = omega arith
since_on m c h (noted e) = omega arith
since_on m c h (word_begins e) = omega arith
since_on m c h (word_goes_on e) = omega arith
since_on m c h opens = omega arith
since_on m c h (argument_ends w) = omega arith
since_on m c h (closes w) = omega arith
since_on m c h (first_ends w) = omega arith
since_on m c h (base_ends w) = omega arith
since_on m c h signs = omega arith
since_on m c h sign_ends = omega arith
since_on m c h gap_ends = omega arith

pub from_on : (t : State) (m : Memory) (c b : ℕ) → m.from ≤ c → (remember t m c b).from ≤ c + 1
from_on start m c b h = omega arith
from_on comment m c b h = omega arith
from_on (in_name p fresh zero) m c b h = omega arith
from_on (in_name p fresh (suc d)) m c b h = omega arith
from_on (in_name p in_word d) m c b h = omega arith
from_on (in_name p closed d) m c b h = omega arith
from_on spaced m c b h = omega arith
from_on signed m c b h = omega arith
from_on parted m c b h = omega arith
from_on stuck m c b h = omega arith

-- names is the line's but for its last name, x
module _ (names : List Named) (x : Named) where
  abbrev Lasts : Outcome → Type 0
  Lasts o = o ≡ lawful (names ++ (x ∷ []))

  none_last : Lasts (lawful []) → ⊥
  none_last e = let same : names ++ (x ∷ []) ≡ [] = cc in not_empty names [] x same

  told_last : (m : Memory) → Lasts (lawful (all_names m)) → m.from ≤ x.column
  told_last m e =
      let same : all_names m ≡ names ++ (x ∷ []) = cc in
      let at : m.from ≡ x.column = ap (λ n. n.column) (same_from_push m.names names (named m.from m.kept) x same).1 in
      omega arith

  at_end : (s : State) (m : Memory) (c : ℕ) → Lasts (over s m c) → since s m c ≤ x.column
  at_end start m c e = absurd (none_last e)
  at_end comment m c e = absurd (none_last e)
  at_end (in_name p fresh d) m c e = let z : ◌≡◌ {A = ℕ} 0 1 = cc in omega arith
  at_end (in_name p in_word zero) m c e = told_last m e
  at_end (in_name p in_word (suc d)) m c e = let z : ◌≡◌ {A = ℕ} 0 1 = cc in omega arith
  at_end (in_name p closed zero) m c e = told_last m e
  at_end (in_name p closed (suc d)) m c e = let z : ◌≡◌ {A = ℕ} 0 1 = cc in omega arith
  at_end spaced m c e = let z : ◌≡◌ {A = ℕ} 0 1 = cc in omega arith
  at_end signed m c e = let z : ◌≡◌ {A = ℕ} 0 1 = cc in omega arith
  at_end parted m c e = let z : ◌≡◌ {A = ℕ} 0 1 = cc in omega arith
  at_end stuck m c e = let z : ◌≡◌ {A = ℕ} 0 1 = cc in omega arith

  pub latest : (bs : List ℕ) (s : State) (m : Memory) (c : ℕ) → m.from ≤ c → Lasts (freely s m c bs) → since s m c ≤ x.column
  latest [] s m c h e = at_end s m c e
  latest (b ∷ bs) s m c h e =
      let t = step s b in
      let k = remember t m c b in
      ⊎_elim
      (λ q. absurd (freely_stuck (remember stuck m c b) (c + 1) bs (names ++ (x ∷ [])) (subst (λ t. Lasts (freely t (remember t m c b) (c + 1) bs)) q e)))
      (λ g. omega (arith, since_on m c h g, latest bs t k (c + 1) (from_on t m c b h) e))
      (leads s b)
