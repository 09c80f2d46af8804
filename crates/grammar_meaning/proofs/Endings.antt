-- What the end of a line says, in the grammar's words.
use Rattle.std.proofs.Common.{◌≡◌, ℕ, zero, suc, ◌+◌, true, false, List, [], ◌∷◌, ◌++◌, length, sym, refl, ap, ◌∙◌, subst, arith}
use Rattle.std.proofs.lemmas.Bool.{both_ways}
use Rattle.grammar.specs.declared.fault.Rule.{Rule}
use Rattle.grammar.specs.declared.fault.Rule.TheVariants.{Brackets, Grammar}
use Rattle.grammar.specs.Grammar.{Named, named, Line, empty, last_base, bare}
use Rattle.grammar.specs.Grammar.{comment as comment-line}
use Rattle.grammar_meaning.specs.BadPlaces.{Breaks}
use Rattle.grammar.specs.Reading.{Part, first, base, Mode, fresh, in_word, closed, State, start, comment, in_name, spaced, signed, parted, stuck, is_stuck, Memory, nothing, all_names, lawful, fault, over}
use Rattle.grammar_meaning.proofs.Lists.{Level, level_append}
use Rattle.grammar_meaning.proofs.Moves.{Whole, after_word, after_bracket}
use Rattle.grammar_meaning.proofs.Unfinished.{whole_read}
use Rattle.grammar_meaning.proofs.Shapes.{Inside, Shape}

-- the names that a line tells, by what is remembered at its end
pub data Tells : Memory → List Named → Type 0 where
  no_names : Tells nothing []
  all_names_lem : {m : Memory} → Tells m (all_names m)

pub data Ends (front : List ℕ) (s : State) (m : Memory) (c : ℕ) : Type 0 where
  as_line : (names : List Named) → over s m c ≡ lawful names → Line front names → Tells m names → Ends front s m c
  too_soon : (rule : Rule) → over s m c ≡ fault rule c → Breaks rule front [] → Ends front s m c

pub front_level : {p : Part} {k : Mode} {d : ℕ} {front : List ℕ} {m : Memory} → Inside p k d front m → Level front d
front_level {d} {m} h = subst (λ f. Level f d) (sym h.splits) (level_append h.before m.kept d h.level h.depth)

whole_line : (p : Part) {k : Mode} {front : List ℕ} {m : Memory} → Whole k → Inside p k 0 front m → Line front (all_names m)
whole_line first {front} {m} w h =
    let n = m.kept in
    let names : named 1 n ∷ [] ≡ all_names m =
    ap (λ c. named c n ∷ []) (sym (h.begins_at ∙ ap (λ f. length f + 1) h.outside.0)) ∙ ap (λ ns. ns ++ (named m.from n ∷ [])) (sym h.outside.1) in
    subst (Line front) names (subst (λ l. Line l (named 1 n ∷ [])) (sym (h.splits ∙ ap (λ f. f ++ n) h.outside.0)) (bare (whole_read 0 n w h.unfinished)))
whole_line base {front} {m} w h =
    let n = m.kept in
    let at = length h.before + 1 in
    subst (λ c. Line front (m.names ++ (named c n ∷ []))) (sym h.begins_at)
    (subst (λ l. Line l (m.names ++ (named at n ∷ []))) (sym h.splits) (h.outside.makes n (named at n ∷ []) (last_base (whole_read 0 n w h.unfinished))))

open_left : (front : List ℕ) (d : ℕ) → Level front (suc d) → Breaks Brackets front []
open_left front d l = ((λ x. x), omega arith)

nothing_open : (front : List ℕ) → Level front 0 → Breaks Grammar front []
nothing_open front l = ((λ x. x), (λ o. omega arith), (λ x. x))

pub ends : (front : List ℕ) (s : State) (m : Memory) (c : ℕ) → Shape front s m → is_stuck s ≡ false → Ends front s m c
ends front start m c h n = as_line [] refl (subst (λ l. Line l []) (sym h.0) empty) (subst (λ x. Tells x []) (sym h.1) no_names)
ends front comment m c h n = as_line [] refl (subst (λ l. Line l []) (sym h.splits) (comment-line h.prints)) (subst (λ x. Tells x []) (sym h.blank) no_names)
ends front (in_name p fresh zero) m c h n = too_soon Grammar refl (nothing_open front (front_level h))
ends front (in_name p fresh (suc d)) m c h n = too_soon Brackets refl (open_left front d (front_level h))
ends front (in_name p in_word zero) m c h n = as_line (all_names m) refl (whole_line p after_word h) all_names_lem
ends front (in_name p in_word (suc d)) m c h n = too_soon Brackets refl (open_left front d (front_level h))
ends front (in_name p closed zero) m c h n = as_line (all_names m) refl (whole_line p after_bracket h) all_names_lem
ends front (in_name p closed (suc d)) m c h n = too_soon Brackets refl (open_left front d (front_level h))
ends front spaced m c h n = too_soon Grammar refl (nothing_open front h.level)
ends front signed m c h n = too_soon Grammar refl (nothing_open front h.level)
ends front parted m c h n = too_soon Grammar refl (nothing_open front h.level)
ends front stuck m c h n = absurd (both_ways true n refl)
