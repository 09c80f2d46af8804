-- Lines are accepted exactly as the grammar and the limits say.
use Rattle.std.proofs.Common.{◌≡◌, ℕ, ◌+◌, Bool, true, false, cond, List, [], ◌∷◌, ◌++◌, length, Some, None, Option, sym, refl, ap, ◌∙◌, subst, append_assoc, append-nil, arith}
use Rattle.std.proofs.lemmas.List.{length_push}
use Rattle.grammar.specs.declared.fault.Rule.{Rule}
use Rattle.grammar.specs.Grammar.{Named, Line}
use Rattle.grammar_meaning.specs.Limits.{WithinLimits}
use Rattle.grammar_meaning.specs.Claims.{AcceptsLawfulLines}
use Rattle.grammar.specs.Reading.{State, start, comment, in_name, spaced, signed, parted, stuck, step, Memory, nothing, remember, opened, is_stuck, misplaced, passed, broken, Outcome, lawful, unlawful, unless, over, reading_from}
use Rattle.grammar_meaning.proofs.Moves.{goes}
use Rattle.grammar_meaning.proofs.Shapes.{Shape}
use Rattle.grammar_meaning.proofs.Reached.{shape_step}
use Rattle.grammar_meaning.proofs.Endings.{Ends, as_line, too_soon, ends}
use Rattle.grammar_meaning.proofs.Limited.{Fine, fine_nothing, fine_told, told_fine, fine_on, fine_back, fine_passed}
use Rattle.grammar_meaning.proofs.Freely.{freely, line_read}

-- no outcome is both
pub not_both : (o : Outcome) (names : List Named) (x : _) → o ≡ lawful names → o ≡ unlawful x → ⊥
not_both o names x e g = let z : ◌≡◌ {A = ℕ} 0 1 = cc in omega arith

pub goes_on : (o : Option Rule) (c : ℕ) (more : Outcome) (names : List Named) → unless o c more ≡ lawful names → (o ≡ None) × (more ≡ lawful names)
goes_on None c more names e = (refl, e)
goes_on (Some rule) c more names e = let z : ◌≡◌ {A = ℕ} 0 1 = cc in absurd (omega arith)

-- a byte breaks no rule where it leaves the reading unstuck and passes no limit
pub unbroken : (s t : State) (m : Memory) (b : ℕ) → broken s t m b ≡ None → (is_stuck t ≡ false) × (passed t m ≡ None)
unbroken s t m b e = by_test (is_stuck t) refl e
  where
    by_test : (u : Bool) → is_stuck t ≡ u → cond u (Some (misplaced (opened s) b)) (passed t m) ≡ None → (is_stuck t ≡ false) × (passed t m ≡ None)
    by_test true q x = let z : ◌≡◌ {A = ℕ} 0 1 = cc in absurd (omega arith)
    by_test false q x = (q, x)

pub breaks_none : (s t : State) (m : Memory) (b : ℕ) → is_stuck t ≡ false → passed t m ≡ None → broken s t m b ≡ None
breaks_none s t m b q e = ap (λ u. cond u (Some (misplaced (opened s) b)) (passed t m)) q ∙ e

-- once stuck, always stuck
pub freely_stuck : (m : Memory) (c : ℕ) (bs : List ℕ) (names : List Named) → freely stuck m c bs ≡ lawful names → ⊥
freely_stuck m c [] names e = let z : ◌≡◌ {A = ℕ} 0 1 = cc in omega arith
freely_stuck m c (b ∷ bs) names e = freely_stuck m (c + 1) bs names e

pub not_stuck : (s : State) (m : Memory) (c : ℕ) (bs : List ℕ) (names : List Named) → freely s m c bs ≡ lawful names → is_stuck s ≡ false
not_stuck start m c bs names e = refl
not_stuck comment m c bs names e = refl
not_stuck (in_name p k d) m c bs names e = refl
not_stuck spaced m c bs names e = refl
not_stuck signed m c bs names e = refl
not_stuck parted m c bs names e = refl
not_stuck stuck m c bs names e = absurd (freely_stuck m c bs names e)

-- a column further on
pub next_column : (front : List ℕ) (b : ℕ) → length front + 1 + 1 ≡ length (front ++ (b ∷ [])) + 1
next_column front b = omega (arith, length_push front b)

accepted : (bs front : List ℕ) (s : State) (m : Memory) (names : List Named) → is_stuck s ≡ false → Shape front s m → Fine m → reading_from s m (length front + 1) bs ≡ lawful names → Line (front ++ bs) names × WithinLimits names
accepted [] front s m names n h f e = at_end (ends front s m (length front + 1) h n)
  where
    at_end : Ends front s m (length front + 1) → Line (front ++ []) names × WithinLimits names
    at_end (as_line told q l x) =
        let same : told ≡ names = cc in
        (subst (λ k. Line k names) (sym (append-nil front)) (subst (Line front) same l), subst WithinLimits same (fine_told x f))
    at_end (too_soon rule q x) = absurd (not_both (over s m (length front + 1)) names _ e q)
accepted (b ∷ bs) front s m names n h f e =
    let t = step s b in
    let c = length front + 1 in
    let k = remember t m c b in
    let on = goes_on (broken s t k b) c (reading_from t k (c + 1) bs) names e in
    let keeps = unbroken s t k b on.0 in
    let shape = shape_step front s m b h in
    let later = subst (λ c. reading_from t k c bs ≡ lawful names) (next_column front b) on.1 in
    let rest = accepted bs (front ++ (b ∷ [])) t k names keeps.0 shape (fine_on (front ++ (b ∷ [])) m c b t shape keeps.1 f) later in
    (subst (λ l. Line l names) (append_assoc front (b ∷ []) bs) rest.0, rest.1)

fits : (bs front : List ℕ) (s : State) (m : Memory) (names : List Named) → Shape front s m → freely s m (length front + 1) bs ≡ lawful names → WithinLimits names → (reading_from s m (length front + 1) bs ≡ lawful names) × Fine m
fits [] front s m names h e w = at_end (ends front s m (length front + 1) h (not_stuck s m (length front + 1) [] names e))
  where
    at_end : Ends front s m (length front + 1) → (over s m (length front + 1) ≡ lawful names) × Fine m
    at_end (as_line told q l x) = let same : names ≡ told = cc in (e, told_fine x (subst WithinLimits same w))
    at_end (too_soon rule q x) = absurd (not_both (over s m (length front + 1)) names _ e q)
fits (b ∷ bs) front s m names h e w =
    let t = step s b in
    let c = length front + 1 in
    let k = remember t m c b in
    let n = not_stuck t k (c + 1) bs names e in
    let shape = shape_step front s m b h in
    let on = fits bs (front ++ (b ∷ [])) t k names shape (subst (λ c. freely t k c bs ≡ lawful names) (next_column front b) e) w in
    let none = breaks_none s t k b n (fine_passed (front ++ (b ∷ [])) t k shape on.1) in (
      ap (λ o. unless o c (reading_from t k (c + 1) bs)) none ∙ subst (λ c. reading_from t k c bs ≡ lawful names) (sym (next_column front b)) on.0,
      fine_back (front ++ (b ∷ [])) m c b front t (goes s b n) h on.1,
    )

pub accepts_lawful_lines : AcceptsLawfulLines
accepts_lawful_lines line names = (
  (λ e. accepted line [] start nothing names refl (refl, refl) fine_nothing e),
  (λ h. (fits line [] start nothing names (refl, refl) (line_read h.0) h.1).0),
)
