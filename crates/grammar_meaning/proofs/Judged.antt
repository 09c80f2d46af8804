-- What is said of the next byte after a front that is not bad, in the grammar's words.
use Rattle.std.proofs.Common.{◌≡◌, ℕ, zero, suc, ◌+◌, ◌<◌, ◌≤◌, Bool, true, false, cond, eqb, ltb, leb, List, [], ◌∷◌, ◌++◌, length, Some, None, sym, refl, ap, ◌∙◌, subst, inl, inr, ⊎_elim, arith}
use Rattle.std.specs.Char.{is_ascii_digit, is_ascii_alphabetic}
use Rattle.std.specs.Int.{is_in_range as lies_within}
use Rattle.std.proofs.lemmas.List.{length_push}
use Rattle.std.proofs.lemmas.Bool.{both_ways, ltb-true, ltb-false, leb-true, le-leb, eqb-true, eqb-false, and_parts, and_from, or_cases, cond_both}
use Rattle.grammar.specs.declared.fault.Rule.{Rule}
use Rattle.grammar.specs.declared.fault.Rule.TheVariants.{Printable, Brackets, Length, Grammar}
use Rattle.grammar.specs.Bytes.{printable, continues, opening, closing}
use Rattle.grammar_meaning.specs.Limits.{count}
use Rattle.grammar_meaning.specs.BadPlaces.{Viable, Bad, Unprintable, Breaks}
use Rattle.grammar.specs.Reading.{fresh, in_word, closed, State, start, comment, in_name, spaced, signed, parted, stuck, step, Memory, nothing, remember, opened, is_stuck, misplaced, passed, broken}
use Rattle.grammar_meaning.proofs.Lists.{Level, count-push}
use Rattle.grammar_meaning.proofs.Moves.{Goes, hashed, started, noted, word_begins, word_goes_on, opens, argument_ends, closes, first_ends, base_ends, signs, sign_ends, gap_ends, goes, opened-on}
use Rattle.grammar_meaning.proofs.Shapes.{Shape}
use Rattle.grammar_meaning.proofs.Reached.{begins-continues}
use Rattle.grammar_meaning.proofs.Endings.{front_level}
use Rattle.grammar_meaning.proofs.ReadFronts.{Read, read_start, read_step, viable_unstuck, viable, ninth_opened, opened_ninth, long_viable, long_kept, kept_long}

-- a front that is not bad
pub record Calm (front : List ℕ) (s : State) (m : Memory) : Type 0 where
  pub read : Read front s m
  pub unstuck : is_stuck s ≡ false
  pub few : opened s ≤ 8
  pub short : length m.kept ≤ 64

pub calm_start : Calm [] start nothing
calm_start = record { read = read_start; unstuck = refl; few = omega arith; short = omega arith }

pub not_bad : (front : List ℕ) (s : State) (m : Memory) → Calm front s m → Bad front → ⊥
not_bad front s m h (inl n) = n (viable front s m h.unstuck h.read.shape)
not_bad front s m h (inr (inl x)) = omega (arith, ninth_opened front s m h.unstuck h.read.shape x)
not_bad front s m h (inr (inr x)) = omega (arith, long_kept front s m h.read x)

-- each byte that leads on is printable
in_range : (low high b : ℕ) → 32 ≤ low → high ≤ 126 → lies_within low high b ≡ true → printable b ≡ true
in_range low high b l h e =
    let parts = and_parts (leb low b) (leb b high) e in
    let above : 32 ≤ b = omega (arith, leb-true low b parts.0) in
    let below : b ≤ 126 = omega (arith, leb-true b high parts.1) in
    and_from (leb 32 b) (leb b 126) (le-leb 32 b above) (le-leb b 126 below)

letter_printable : (b : ℕ) → is_ascii_alphabetic b ≡ true → printable b ≡ true
letter_printable b e = ⊎_elim (in_range 65 90 b (omega arith) (omega arith)) (in_range 97 122 b (omega arith) (omega arith)) (or_cases (lies_within 65 90 b) (lies_within 97 122 b) e)

word-printable : (b : ℕ) → continues b ≡ true → printable b ≡ true
word-printable b e = by_class (is_ascii_alphabetic b) (is_ascii_digit b) refl refl e
  where
    by_class : (t u : Bool) → is_ascii_alphabetic b ≡ t → is_ascii_digit b ≡ u → cond t true (cond u true (eqb b 95)) ≡ true → printable b ≡ true
    by_class true u p q x = letter_printable b p
    by_class false true p q x = in_range 48 57 b (omega arith) (omega arith) q
    by_class false false p q x = ap printable (eqb-true b 95 x)

printed : {s t : State} {b : ℕ} → Goes s b t → printable b ≡ true
printed hashed = refl
printed (started {b} e) = word-printable b (begins-continues b e)
printed (noted e) = e
printed (word_begins {b} e) = word-printable b (begins-continues b e)
printed (word_goes_on {b} e) = word-printable b e
printed opens = refl
printed (argument_ends w) = refl
printed (closes w) = refl
printed (first_ends w) = refl
printed (base_ends w) = refl
printed signs = refl
printed sign_ends = refl
printed gap_ends = refl

-- a name has one byte more, at most
kept_on : (t : State) (m : Memory) (c b : ℕ) → length (remember t m c b).kept ≤ length m.kept + 1
kept_on start m c b = omega arith
kept_on comment m c b = omega arith
kept_on (in_name p fresh zero) m c b = omega arith
kept_on (in_name p fresh (suc d)) m c b = omega (arith, length_push m.kept b)
kept_on (in_name p in_word d) m c b = omega (arith, length_push m.kept b)
kept_on (in_name p closed d) m c b = omega (arith, length_push m.kept b)
kept_on spaced m c b = omega arith
kept_on signed m c b = omega arith
kept_on parted m c b = omega arith
kept_on stuck m c b = omega arith

is_stuck_lem : (t : State) → is_stuck t ≡ true → t ≡ stuck
is_stuck_lem stuck e = refl
is_stuck_lem start e = absurd (both_ways true (sym e) refl)
is_stuck_lem comment e = absurd (both_ways true (sym e) refl)
is_stuck_lem (in_name p k d) e = absurd (both_ways true (sym e) refl)
is_stuck_lem spaced e = absurd (both_ways true (sym e) refl)
is_stuck_lem signed e = absurd (both_ways true (sym e) refl)
is_stuck_lem parted e = absurd (both_ways true (sym e) refl)

-- so many brackets are open where a printable byte does not fit
misfit_level : (front : List ℕ) (s : State) (m : Memory) (b : ℕ) → Shape front s m → is_stuck s ≡ false → step s b ≡ stuck → printable b ≡ true → Level front (opened s)
misfit_level front start m b h n e q = subst (λ f. Level f 0) (sym h.0) refl
misfit_level front comment m b h n e q =
    let z : comment ≡ stuck = ap (λ t. cond t comment stuck) (sym q) ∙ e in
    absurd (both_ways true (ap is_stuck (sym z)) refl)
misfit_level front (in_name p k d) m b h n e q = front_level h
misfit_level front spaced m b h n e q = h.level
misfit_level front signed m b h n e q = h.level
misfit_level front parted m b h n e q = h.level
misfit_level front stuck m b h n e q = absurd (both_ways true n refl)

-- the rule broken by a byte that does not fit
module _ (front rest : List ℕ) (b : ℕ) (dead : Viable (front ++ (b ∷ [])) → ⊥) where
  abbrev Broken : Rule → Type 0
  Broken rule = Breaks rule front (b ∷ rest)

  only_grammar : printable b ≡ true → ((b ≡ closing) × (count opening front ≡ count closing front) → ⊥) → Broken Grammar
  only_grammar p n = ((λ q. both_ways (printable b) q p), (λ x. ⊎_elim (λ y. dead y.0) n x), (λ x. dead (long_viable x)))

  misfit : (d : ℕ) → (printable b ≡ true → Level front d) → Broken (misplaced d b)
  misfit zero l =
      cond_both (printable b) (cond (eqb b closing) Brackets Grammar) Printable Broken
      (λ p. cond_both (eqb b closing) Brackets Grammar Broken
      (λ q. ((λ n. both_ways (printable b) n p), inr (eqb-true b closing q, omega (arith, l p))))
      (λ q. only_grammar p (λ x. eqb-false b closing q x.0)))
      (λ p. p)
  misfit (suc d) l = cond_both (printable b) Grammar Printable Broken (λ p. only_grammar p (λ x. omega (arith, l p, x.1))) (λ p. p)

-- the next byte fits, or is bad and breaks a rule
pub data Says (front : List ℕ) (s : State) (b : ℕ) (rest : List ℕ) (t : State) (k : Memory) : Type 0 where
  fits : broken s t k b ≡ None → Calm (front ++ (b ∷ [])) t k → Says front s b rest t k
  breaks : (rule : Rule) → broken s t k b ≡ Some rule → Bad (front ++ (b ∷ [])) → Breaks rule front (b ∷ rest) → Says front s b rest t k

module _ (front rest : List ℕ) (s : State) (m : Memory) (b : ℕ) (h : Calm front s m) where
  -- the state that b leads to, what is remembered there, and the front that b ends
  abbrev t : State
  t = step s b

  abbrev k : Memory
  k = remember t m (length front + 1) b

  abbrev longer : List ℕ
  longer = front ++ (b ∷ [])

  read : Read longer t k
  read = read_step front s m b h.read

  stuck_there : is_stuck t ≡ true → Says front s b rest t k
  stuck_there e =
      let dead : Viable longer → ⊥ = λ v. both_ways (is_stuck t) (viable_unstuck read v) e in
      breaks (misplaced (opened s) b) (ap (λ u. cond u (Some (misplaced (opened s) b)) (passed t k)) e) (inl dead)
      (misfit front rest b dead (opened s) (misfit_level front s m b h.read.shape h.unstuck (is_stuck_lem t e)))

  prints : is_stuck t ≡ false → Unprintable (b ∷ rest) → ⊥
  prints n q = both_ways (printable b) q (printed (goes s b n))

  ninth_there : is_stuck t ≡ false → 8 < opened t → broken s t k b ≡ Some Brackets → Says front s b rest t k
  ninth_there n o e =
      let nine : opened t ≡ 9 = omega (arith, opened-on (goes s b n), h.few) in
      let ninth = opened_ninth longer t k n read.shape nine in
      breaks Brackets e (inr (inl ninth)) (prints n, inl ninth)

  long_there : is_stuck t ≡ false → opened t ≤ 8 → 64 < length k.kept → broken s t k b ≡ Some Length → Says front s b rest t k
  long_there n o l e =
      let all : length k.kept ≡ 65 = omega (arith, kept_on t m (length front + 1) b, h.short) in
      let long = kept_long longer t k n read.shape all in
      breaks Length e (inr (inr long.sixty_fifth)) (
        prints n,
        (λ x. ⊎_elim (λ y. omega (arith, ninth_opened longer t k n read.shape y)) (λ y. too_many y long.level) x),
        long.sixty_fifth,
      )
    where
      too_many : (b ≡ closing) × (count opening front ≡ count closing front) → Level longer (opened t) → ⊥
      too_many y l =
          let shut : Level (front ++ (closing ∷ [])) (opened t) = subst (λ c. Level (front ++ (c ∷ [])) (opened t)) y.0 l in
          omega (arith, count-push opening front closing, count-push closing front closing, y.1)

  pub judged : Says front s b rest t k
  judged = by_tests (is_stuck t) (ltb 8 (opened t)) (ltb 64 (length k.kept)) refl refl refl refl
    where
      by_tests : (u v w : Bool) → is_stuck t ≡ u → ltb 8 (opened t) ≡ v → ltb 64 (length k.kept) ≡ w → broken s t k b ≡ cond u (Some (misplaced (opened s) b)) (cond v (Some Brackets) (cond w (Some Length) None)) → Says front s b rest t k
      by_tests true v w p q r e = stuck_there p
      by_tests false true w p q r e = ninth_there p (ltb-true 8 (opened t) q) e
      by_tests false false true p q r e = long_there p (ltb-false 8 (opened t) q) (ltb-true 64 (length k.kept) r) e
      by_tests false false false p q r e = fits e (record { read = read; unstuck = p; few = ltb-false 8 (opened t) q; short = ltb-false 64 (length k.kept) r })
