-- The numbers of names that are different.
use Rattle.std.proofs.Common.{◌≡◌, ℕ, suc, ◌+◌, ◌<◌, ltb, List, [], ◌∷◌, ◌++◌, length, get_or, Some, None, Option, sym, refl, ap, ◌∙◌, add-zero, zero-add, arith}
use Rattle.std.proofs.lemmas.List.{get_or_append_left, get_or_at, length-append}
use Rattle.std.proofs.lemmas.Bool.{cond-true, lt-ltb}
use Rattle.names.specs.Tables.{Different}
use Rattle.names.specs.Finding.{number_in}
use Rattle.names.proofs.Numbers.{stands, number_from_name}

-- these names have the numbers from `first` on
abbrev pub Numbered : List (List ℕ) → ℕ → List (List ℕ) → Type 0
Numbered all first [] = Unit {0}
Numbered all first (name ∷ names) = (number_in all name ≡ Some first) × Numbered all (first + 1) names

numbered_from : (all : List (List ℕ)) (first : ℕ) (names : List (List ℕ)) → ((i : ℕ) → i < length names → number_in all (get_or names i []) ≡ Some (first + i)) → Numbered all first names
numbered_from all first [] f = tt
numbered_from all first (name ∷ names) f = (
  f 0 (omega arith) ∙ ap (λ k. Some k) (add-zero first),
  numbered_from all (first + 1) names (λ i h. let n : first + suc i ≡ first + 1 + i = omega arith in f (suc i) (omega arith) ∙ ap (λ k. Some k) n),
)

pub numbered : (all : List (List ℕ)) → Different all → Numbered all 0 all
numbered all d =
    numbered_from all 0 all (λ i h.
    number_from_name all (get_or all i []) i d (cond-true (ltb i (length all)) (Some (get_or all i [])) None (lt-ltb i (length all) h)) ∙ ap (λ k. Some k) (sym (zero-add i)))

-- a name is not among the different names before it
pub new_name : (done : List (List ℕ)) (name : List ℕ) (more : List (List ℕ)) → Different (done ++ (name ∷ more)) → number_in done name ≡ None
new_name done name more d = by_answer (number_in done name) refl
  where
    by_answer : (o : Option ℕ) → number_in done name ≡ o → number_in done name ≡ None
    by_answer None e = e
    by_answer (Some k) e =
        let at = stands done name k e in
        absurd (d k (length done) at.0 (omega (arith, length-append done (name ∷ more)))
        (get_or_append_left done (name ∷ more) [] k at.0 ∙ at.1 ∙ sym (get_or_at done name more [] (length done) refl)))
