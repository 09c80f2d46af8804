-- What a lawful name is: a name of the grammar that keeps both limits.
use Rattle.std.proofs.Common.{◌≡◌, ℕ, ◌≤◌, List, [], ◌∷◌, map, length, refl, arith}
use Rattle.grammar.specs.Grammar.{Named, named, Name, Bases, last_base, more_bases, Line, empty, comment, bare, under}
use Rattle.grammar_meaning.specs.Limits.{AtMostEightOpen, WithinLimits}
use Rattle.grammar_meaning.proofs.Accepted.{accepts_lawful_lines}
use Rattle.printing_meaning.specs.LawfulNames.{LawfulName, LawfulNames, LinesHoldLawfulNames}

pub record Good (name : List ℕ) : Type 0 where
  pub is_name : Name name
  pub short : length name ≤ 64
  pub brackets : AtMostEightOpen name

-- there are bases after ` < `
bases_some : {c : ℕ} {bs : List ℕ} {ns : List Named} → Bases c bs ns → ns ≡ [] → ⊥
bases_some (last_base n) e = grind arith
bases_some (more_bases n b) e = grind arith

none_is_one : {X : Type 0} (x : X) → ◌≡◌ {A = List X} [] (x ∷ []) → ⊥
none_is_one x e = grind arith

rest_is_none : {X : Type 0} (x y : X) (xs : List X) → x ∷ xs ≡ y ∷ [] → xs ≡ []
rest_is_none x y xs e = cc

-- a line that holds just itself is a name
name_from_line : {line : List ℕ} {ns : List Named} (n : Named) → Line line ns → ns ≡ n ∷ [] → Name line
name_from_line n empty e = absurd (none_is_one n e)
name_from_line n (comment p) e = absurd (none_is_one n e)
name_from_line n (bare m) e = m
name_from_line n (under {n = name} {bs = bs} {ns = ns} m b) e = absurd (bases_some b (rest_is_none (named 1 name) n ns e))

pub good_from_lawful : (name : List ℕ) → LawfulName name → Good name
good_from_lawful name e =
    let h = (accepts_lawful_lines name (named 1 name ∷ [])).0 e in
    record { is_name = name_from_line (named 1 name) h.0 refl; short = h.1.0; brackets = h.1.1 }

pub lawful_from_good : (name : List ℕ) → Good name → LawfulName name
lawful_from_good name g = (accepts_lawful_lines name (named 1 name ∷ [])).1 (bare g.is_name, (g.short, g.brackets, tt))

abbrev names_of : List Named → List (List ℕ)
names_of ns = map (λ (n : Named). n.bytes) ns

on_bases : {c : ℕ} {bs : List ℕ} {ns : List Named} → Bases c bs ns → WithinLimits ns → LawfulNames (names_of ns)
on_bases (last_base {n = n} m) w = (lawful_from_good n (record { is_name = m; short = w.0; brackets = w.1 }), tt)
on_bases (more_bases {n = n} m b) w = (lawful_from_good n (record { is_name = m; short = w.0; brackets = w.1 }), on_bases b w.2)

on_line : {line : List ℕ} {ns : List Named} → Line line ns → WithinLimits ns → LawfulNames (names_of ns)
on_line empty w = tt
on_line (comment p) w = tt
on_line (bare {n = n} m) w = (lawful_from_good n (record { is_name = m; short = w.0; brackets = w.1 }), tt)
on_line (under {n = n} m b) w = (lawful_from_good n (record { is_name = m; short = w.0; brackets = w.1 }), on_bases b w.2)

pub lines_hold_lawful_names : LinesHoldLawfulNames
lines_hold_lawful_names line names e = let h = (accepts_lawful_lines line names).0 e in on_line h.0 h.1
