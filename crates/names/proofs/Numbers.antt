-- Numbers of names: found exactly for their names, and kept.
use Rattle.std.proofs.Common.{◌≡◌, ℕ, suc, ◌+◌, ◌<◌, ltb, List, [], ◌∷◌, ◌++◌, length, get_or, Some, sym, ap, ◌∙◌, ⊎_elim, add-zero, zero-add, arith}
use Rattle.std.specs.Str.{bytes_eq}
use Rattle.std.proofs.lemmas.Slice.Eq.{bytes_eq-Decides}
use Rattle.std.proofs.lemmas.Option.{none-some, same_Some, cond_some}
use Rattle.std.proofs.lemmas.Bool.{cases_Bool, cond-true, cond-false, ltb-true, lt-ltb}
use Rattle.names.specs.Tables.{Different}
use Rattle.names.specs.Finding.{name_of, number_from, number_in}
use Rattle.names.specs.Facts.{entered_all}
use Rattle.names.proofs.Search.{first_found}
use Rattle.names.proofs.Undoing.{extends}

-- where a found number stands
found_at : (first : ℕ) (names : List (List ℕ)) (bytes : List ℕ) (number : ℕ) → number_from first names bytes ≡ Some number → (i : ℕ) × (number ≡ first + i) × (i < length names) × (get_or names i [] ≡ bytes)
found_at first [] bytes number e = absurd (none-some number e)
found_at first (name ∷ names) bytes number e =
    ⊎_elim
    (λ t. (0, same_Some number first (sym e ∙ cond-true (bytes_eq name bytes) _ _ t) ∙ sym (add-zero first), omega arith, (bytes_eq-Decides name bytes).0 t))
    (λ f. let r = found_at (first + 1) names bytes number (sym (cond-false (bytes_eq name bytes) _ _ f) ∙ e) in (suc r.0, omega (arith, r.1), omega (arith, r.2), r.3))
    (cases_Bool (bytes_eq name bytes))

module _ (names : List (List ℕ)) (bytes : List ℕ) (number : ℕ) where
  pub stands : number_in names bytes ≡ Some number → (number < length names) × (get_or names number [] ≡ bytes)
  stands e =
      let r = found_at 0 names bytes number e in
      let here : r.0 ≡ number = omega (arith, r.1) in
      (omega (arith, r.1, r.2), ap (λ k. get_or names k []) (sym here) ∙ r.3)

  pub name_from_number : number_in names bytes ≡ Some number → name_of names number ≡ Some bytes
  name_from_number e =
      let (below, is) = stands e in
      cond-true (ltb number (length names)) _ _ (lt-ltb number (length names) below) ∙ ap (λ l. Some l) is

  pub number_from_name : Different names → name_of names number ≡ Some bytes → number_in names bytes ≡ Some number
  number_from_name d e =
      let (test, same) = cond_some (ltb number (length names)) (get_or names number []) bytes e in
      let below = ltb-true number (length names) test in
      first_found 0 names bytes number (below, same, λ i h q. d i number h below (q ∙ sym same)) ∙ ap (λ k. Some k) (zero-add number)

found_in_front : (first : ℕ) (names more : List (List ℕ)) (bytes : List ℕ) (number : ℕ) → number_from first names bytes ≡ Some number → number_from first (names ++ more) bytes ≡ Some number
found_in_front first [] more bytes number e = absurd (none-some number e)
found_in_front first (name ∷ names) more bytes number e =
    ⊎_elim
    (λ t. cond-true (bytes_eq name bytes) _ _ t ∙ sym (cond-true (bytes_eq name bytes) _ _ t) ∙ e)
    (λ f. cond-false (bytes_eq name bytes) _ _ f ∙ found_in_front (first + 1) names more bytes number (sym (cond-false (bytes_eq name bytes) _ _ f) ∙ e))
    (cases_Bool (bytes_eq name bytes))

pub number_kept : (size places : ℕ) (names more : List (List ℕ)) (bytes : List ℕ) (number : ℕ) → number_in names bytes ≡ Some number → number_in (entered_all size places names more) bytes ≡ Some number
number_kept size places names more bytes number e =
    let r = extends size places names more in
    ap (λ l. number_in l bytes) r.1 ∙ found_in_front 0 names r.0 bytes number e
