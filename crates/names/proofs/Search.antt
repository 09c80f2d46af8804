-- The search for a name: the number of the first name with its bytes.
use Rattle.std.proofs.Common.{◌≡◌, ℕ, zero, suc, ◌+◌, ◌<◌, List, [], ◌∷◌, length, get_or, Some, None, sym, refl, ap, ◌∙◌, ⊎_elim, add-zero, arith}
use Rattle.std.specs.Str.{bytes_eq}
use Rattle.std.proofs.lemmas.Slice.Eq.{bytes_eq-Decides}
use Rattle.std.proofs.lemmas.Bool.{cases_Bool, cond-true, cond-false}
use Rattle.names.specs.Finding.{number_from}

-- no name of the list has these bytes
abbrev pub Without : List (List ℕ) → List ℕ → ℕ → Type 0
Without names bytes end = (i : ℕ) → i < end → get_or names i [] ≡ bytes → ⊥

-- the first name with these bytes stands at this place
abbrev pub FirstAt : List (List ℕ) → List ℕ → ℕ → Type 0
FirstAt names bytes i = (i < length names) × (get_or names i [] ≡ bytes) × Without names bytes i

pub first_found : (first : ℕ) (names : List (List ℕ)) (bytes : List ℕ) (i : ℕ) → FirstAt names bytes i → number_from first names bytes ≡ Some (first + i)
first_found first [] bytes i at = absurd (omega (arith, at.0))
first_found first (name ∷ names) bytes zero at = cond-true (bytes_eq name bytes) _ _ ((bytes_eq-Decides name bytes).1 at.1) ∙ ap (λ k. Some k) (sym (add-zero first))
first_found first (name ∷ names) bytes (suc i) at =
    ⊎_elim
    (λ t. absurd (at.2 0 (omega arith) ((bytes_eq-Decides name bytes).0 t)))
    (λ f.
    let n : first + 1 + i ≡ first + suc i = omega arith in
    cond-false (bytes_eq name bytes) _ _ f ∙ first_found (first + 1) names bytes i (omega (arith, at.0), at.1, λ j h. at.2 (suc j) (omega arith)) ∙ ap (λ k. Some k) n)
    (cases_Bool (bytes_eq name bytes))

pub none_found : (first : ℕ) (names : List (List ℕ)) (bytes : List ℕ) → Without names bytes (length names) → number_from first names bytes ≡ None
none_found first [] bytes none = refl
none_found first (name ∷ names) bytes none =
    ⊎_elim
    (λ t. absurd (none 0 (omega arith) ((bytes_eq-Decides name bytes).0 t)))
    (λ f. cond-false (bytes_eq name bytes) _ _ f ∙ none_found (first + 1) names bytes (λ i h. none (suc i) (omega arith)))
    (cases_Bool (bytes_eq name bytes))
