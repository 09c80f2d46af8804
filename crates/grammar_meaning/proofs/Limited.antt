-- Names that keep the limits, as they grow byte by byte.
use Rattle.std.proofs.Common.{◌≡◌, ℕ, zero, suc, ◌+◌, ◌≤◌, Bool, true, false, cond, ltb, List, [], ◌∷◌, ◌++◌, length, Some, None, sym, refl, ap, ◌∙◌, subst, ⊎_elim, append_assoc, append-nil, arith}
use Rattle.std.proofs.lemmas.List.{length_push}
use Rattle.std.proofs.lemmas.Bool.{le-ltb, ltb-false}
use Rattle.grammar.specs.declared.fault.Rule.TheVariants.{Brackets, Length}
use Rattle.grammar.specs.Bytes.{opening, closing}
use Rattle.grammar.specs.Grammar.{Named, named}
use Rattle.grammar_meaning.specs.Limits.{count, AtMostEightOpen, WithinLimits}
use Rattle.grammar.specs.Reading.{Part, Mode, fresh, in_word, closed, State, start, comment, in_name, spaced, signed, parted, stuck, Memory, nothing, longer, remember, opened, passed}
use Rattle.grammar_meaning.proofs.Lists.{push_fronts}
use Rattle.grammar_meaning.proofs.Moves.{Goes, sign_ends, gap_ends}
use Rattle.grammar_meaning.proofs.Shapes.{Inside, Shape}
use Rattle.grammar_meaning.proofs.Endings.{Tells, no_names, all_names_lem}

-- the names that are over keep the limits, and so does the present one so far
abbrev pub Fine : Memory → Type 0
Fine m = WithinLimits m.names × (length m.kept ≤ 64) × AtMostEightOpen m.kept

eight_none : AtMostEightOpen []
eight_none [] rest e = omega arith
eight_none (b ∷ front) rest e = let z : ◌≡◌ {A = ℕ} 0 1 = cc in absurd (omega arith)

eight_push : (k : List ℕ) (b : ℕ) → AtMostEightOpen k → count opening (k ++ (b ∷ [])) ≤ count closing (k ++ (b ∷ [])) + 8 → AtMostEightOpen (k ++ (b ∷ []))
eight_push k b h l front rest e =
    ⊎_elim (λ q. subst (λ f. count opening f ≤ count closing f + 8) (sym q) l) (λ q. h front q.0 q.1) (push_fronts k b front rest e)

eight_pop : (k : List ℕ) (b : ℕ) → AtMostEightOpen (k ++ (b ∷ [])) → AtMostEightOpen k
eight_pop k b h front rest e = h front (rest ++ (b ∷ [])) (ap (λ x. x ++ (b ∷ [])) e ∙ append_assoc front rest (b ∷ []))

limits_push : (ns : List Named) (n : Named) → WithinLimits ns → length n.bytes ≤ 64 → AtMostEightOpen n.bytes → WithinLimits (ns ++ (n ∷ []))
limits_push [] n h l o = (l, o, tt)
limits_push (x ∷ ns) n h l o = (h.0, h.1, limits_push ns n h.2 l o)

limits_pop : (ns : List Named) (n : Named) → WithinLimits (ns ++ (n ∷ [])) → WithinLimits ns × (length n.bytes ≤ 64) × AtMostEightOpen n.bytes
limits_pop [] n h = (tt, h.0, h.1)
limits_pop (x ∷ ns) n h = let more = limits_pop ns n h.2 in ((h.0, h.1, more.0), more.1, more.2)

pub fine_nothing : Fine nothing
fine_nothing = (tt, omega arith, eight_none)

-- what a line tells keeps the limits exactly where what is remembered does
pub fine_told : {m : Memory} {names : List Named} → Tells m names → Fine m → WithinLimits names
fine_told no_names f = tt
fine_told (all_names_lem {m}) f = limits_push m.names (named m.from m.kept) f.0 f.1 f.2

pub told_fine : {m : Memory} {names : List Named} → Tells m names → WithinLimits names → Fine m
told_fine no_names w = fine_nothing
told_fine (all_names_lem {m}) w = limits_pop m.names (named m.from m.kept) w

pub not_passed : (s : State) (m : Memory) → opened s ≤ 8 → length m.kept ≤ 64 → passed s m ≡ None
not_passed s m o l =
    ap (λ t. cond t (Some Brackets) (cond (ltb 64 (length m.kept)) (Some Length) None)) (le-ltb 8 (opened s) o)
    ∙ ap (λ t. cond t (Some Length) None) (le-ltb 64 (length m.kept) l)

pub keeps : (s : State) (m : Memory) → passed s m ≡ None → (opened s ≤ 8) × (length m.kept ≤ 64)
keeps s m e = by_tests (ltb 8 (opened s)) (ltb 64 (length m.kept)) refl refl e
  where
    by_tests : (t u : Bool) → ltb 8 (opened s) ≡ t → ltb 64 (length m.kept) ≡ u → cond t (Some Brackets) (cond u (Some Length) None) ≡ None → (opened s ≤ 8) × (length m.kept ≤ 64)
    by_tests true u p q x = let z : ◌≡◌ {A = ℕ} 0 1 = cc in absurd (omega arith)
    by_tests false true p q x = let z : ◌≡◌ {A = ℕ} 0 1 = cc in absurd (omega arith)
    by_tests false false p q x = (ltb-false 8 (opened s) p, ltb-false 64 (length m.kept) q)

-- where a name is to begin, none was going on
anew : {s : State} {b : ℕ} {p : Part} (m : Memory) (front : List ℕ) → Goes s b (in_name p fresh zero) → Shape front s m → m.kept ≡ []
anew m front sign_ends h = h.nothing_kept
anew m front gap_ends h = h.nothing_kept

-- a byte that passes no limit
module _ (front : List ℕ) (m : Memory) (c b : ℕ) where
  abbrev Then : State → Memory
  Then t = remember t m c b

  grown : (p : Part) (k : Mode) (d : ℕ) → Inside p k d front (longer b m) → passed (in_name p k d) (longer b m) ≡ None → Fine m → Fine (longer b m)
  grown p k d h e f =
      let limits = keeps (in_name p k d) (longer b m) e in
      (f.0, limits.1, eight_push m.kept b f.2 (omega (arith, h.depth)))

  pub fine_on : (t : State) → Shape front t (Then t) → passed t (Then t) ≡ None → Fine m → Fine (Then t)
  fine_on start h e f = f
  fine_on comment h e f = f
  fine_on (in_name p fresh zero) h e f = (f.0, omega arith, eight_none)
  fine_on (in_name p fresh (suc d)) h e f = grown p fresh (suc d) h e f
  fine_on (in_name p in_word d) h e f = grown p in_word d h e f
  fine_on (in_name p closed d) h e f = grown p closed d h e f
  fine_on spaced h e f = (fine_told (all_names_lem {m = m}) f, omega arith, eight_none)
  fine_on signed h e f = f
  fine_on parted h e f = (fine_told (all_names_lem {m = m}) f, omega arith, eight_none)
  fine_on stuck h e f = f

  shrunk : Fine (longer b m) → Fine m
  shrunk f = (f.0, omega (arith, f.1, length_push m.kept b), eight_pop m.kept b f.2)

  pub fine_back : {s : State} (before : List ℕ) (t : State) → Goes s b t → Shape before s m → Fine (Then t) → Fine m
  fine_back before start g h f = f
  fine_back before comment g h f = f
  fine_back before (in_name p fresh zero) g h f =
      let blank = anew m before g h in
      (f.0, subst (λ k. length k ≤ 64) (sym blank) (omega arith), subst AtMostEightOpen (sym blank) eight_none)
  fine_back before (in_name p fresh (suc d)) g h f = shrunk f
  fine_back before (in_name p in_word d) g h f = shrunk f
  fine_back before (in_name p closed d) g h f = shrunk f
  fine_back before spaced g h f = told_fine (all_names_lem {m = m}) f.0
  fine_back before signed g h f = f
  fine_back before parted g h f = told_fine (all_names_lem {m = m}) f.0
  fine_back before stuck g h f = f

-- where the names keep the limits, no limit is passed
pub fine_passed : (front : List ℕ) (t : State) (m : Memory) → Shape front t m → Fine m → passed t m ≡ None
fine_passed front t m h f = not_passed t m (few t h) f.1
  where
    few : (t : State) → Shape front t m → opened t ≤ 8
    few start h = omega arith
    few comment h = omega arith
    few (in_name p k d) h = omega (arith, h.depth, f.2 m.kept [] (sym (append-nil m.kept)))
    few spaced h = omega arith
    few signed h = omega arith
    few parted h = omega arith
    few stuck h = omega arith
