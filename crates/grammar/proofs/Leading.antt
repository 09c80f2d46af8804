-- Where the byte at a place leads in a name.
use Rattle.std.proofs.Common.{◌≡◌, ℕ, zero, suc, ◌+◌, ◌-◌, ◌<◌, ◌≤◌, List, length, get_or, IsErrAnd, Ok, Err, Result, sym, refl, ap, ◌∙◌, subst, arith}
use Rattle.std.proofs.lemmas.Result.{err_from_is_err_and}
use Rattle.grammar.specs.declared.cursor.Cursor.{Cursor}
use Rattle.grammar.specs.declared.fault.Fault.{Fault}
use Rattle.grammar.specs.declared.fault.Rule.TheVariants.{Length}
use Rattle.grammar.specs.Grammar.{Named}
use Rattle.grammar.specs.Reading.{Part, Mode, fresh, in_word, closed, in_name, Memory, longer, step, remember, unlawful, fault}
use Rattle.grammar.specs.Posts.{onward, recalled, reads, Further, Leads, WordRead, NameRead}
use Rattle.grammar.proofs.Steps.{goes_on, grows_long, word_begins, word_continues, bracket_opens, comma_parts, bracket_closes}

leads_step : (s : List ℕ) (i : ℕ) (p : Part) (a m : Mode) (d k : ℕ) → Leads a (get_or s i 0) d k m → step (in_name p a d) (get_or s i 0) ≡ in_name p m k
leads_step s i p fresh in_word d k h = word_begins s i p d h.0 ∙ ap (in_name p in_word) (sym h.1)
leads_step s i p fresh fresh d k h = absurd h
leads_step s i p fresh closed d k h = absurd h
leads_step s i p in_word in_word d k h = word_continues s i p d h.0 ∙ ap (in_name p in_word) (sym h.1)
leads_step s i p in_word fresh d k h = bracket_opens s i p d h.0 ∙ ap (in_name p fresh) (omega (arith, h.1))
leads_step s i p in_word closed d k h = absurd h
leads_step s i p closed in_word d k h = absurd h
leads_step s i p closed fresh zero k h = absurd (omega (arith, h.1))
leads_step s i p closed fresh (suc d) k h = comma_parts s i p d h.0 ∙ ap (in_name p fresh) (sym h.2)
leads_step s i p closed closed zero k h = absurd (omega (arith, h.1))
leads_step s i p closed closed (suc d) k h = bracket_closes s i p d h.0 ∙ ap (in_name p closed) (omega (arith, h.1))

leads_within : (p : Part) (a m : Mode) (b d k : ℕ) → Leads a b d k m → (n : Memory) (c : ℕ) → remember (in_name p m k) n c b ≡ longer b n
leads_within p a in_word b d k h n c = refl
leads_within p a closed b d k h n c = refl
leads_within p fresh fresh b d k h n c = absurd h
leads_within p in_word fresh b d zero h n c = absurd (omega (arith, h.1))
leads_within p in_word fresh b d (suc k) h n c = refl
leads_within p closed fresh b d zero h n c = absurd (omega (arith, h.1, h.2))
leads_within p closed fresh b d (suc k) h n c = refl

-- in a name that began at f, past a byte of the line
module _ (s : List ℕ) (f i d k : ℕ) (began : f ≤ i) (here : i < length s) (few : k ≤ 8) where
  pub leads_on : i - f < 64 → (p : Part) (a m : Mode) (ns : List Named) → Leads a (get_or s i 0) d k m → onward s i (in_name p a d) (recalled s ns f i) ≡ onward s (i + 1) (in_name p m k) (recalled s ns f (i + 1))
  leads_on w p a m ns h = goes_on s f i began p ns (in_name p a d) m k (leads_within p a m (get_or s i 0) d k h (recalled s ns f i) (i + 1)) here (leads_step s i p a m d k h) few w

  pub leads_long : 64 ≤ i - f → (p : Part) (a m : Mode) (ns : List Named) → Leads a (get_or s i 0) d k m → onward s i (in_name p a d) (recalled s ns f i) ≡ fault Length (i + 1)
  leads_long w p a m ns h = grows_long s f i began p ns (in_name p a d) m k (leads_within p a m (get_or s i 0) d k h (recalled s ns f i) (i + 1)) here (leads_step s i p a m d k h) few w

-- what is read from e on is read from c on, where the reading comes from c to e
pub from_there : (c e : Cursor) (j k : ℕ) (r : Result Cursor Fault) → Further c e → j ≡ k → ((p : Part) (ns : List Named) → reads p fresh ns c ≡ reads p fresh ns e) → NameRead e j r → NameRead c k r
from_there c e j k (Ok z) f q g x = ((x.0.0 ∙ f.0, x.0.1 ∙ f.1, omega (arith, f.2, x.0.2)), x.1 ∙ q, λ p ns. g p ns ∙ x.2 p ns)
from_there c e j k (Err y) f q g x = λ p ns. g p ns ∙ x p ns

-- the exits of a `?`
pub word_refused : (c : Cursor) (r : Result Cursor Fault) (x : Fault) → IsErrAnd r (λ y. y ≡ x) → ((p : Part) (ns : List Named) → reads p fresh ns c ≡ unlawful x) → WordRead c r
word_refused c r x h g =
    let e = err_from_is_err_and r h in
    subst (WordRead c) (sym e.1) (λ p ns. g p ns ∙ ap unlawful (sym e.2))

pub name_refused : (c : Cursor) (k : ℕ) (r : Result Cursor Fault) (x : Fault) → IsErrAnd r (λ y. y ≡ x) → ((p : Part) (ns : List Named) → reads p fresh ns c ≡ unlawful x) → NameRead c k r
name_refused c k r x h g =
    let e = err_from_is_err_and r h in
    subst (NameRead c k) (sym e.1) (λ p ns. g p ns ∙ ap unlawful (sym e.2))
