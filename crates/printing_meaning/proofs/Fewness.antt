-- No more links are printed than there are.
use Rattle.std.proofs.Common.{◌≡◌, ℕ, ◌+◌, ◌<◌, ◌≤◌, Bool, true, false, cond, ◌||◌, eqb, List, [], ◌∷◌, ◌++◌, length, refl, ap, ◌∙◌, ap₂, ⊎_elim, arith}
use Rattle.std.proofs.lemmas.List.{length-append}
use Rattle.std.proofs.lemmas.Bool.{true≢false, cases_Bool, cases_eq, and_parts, and_left, and_right, ne_eqb, eqb-true}
use Rattle.descent.specs.declared.link.Link.{Link}
use Rattle.descent.specs.Links.{link}
use Rattle.hierarchy.specs.Entering.{is_link, has_link}
use Rattle.printing_meaning.proofs.PrintedLinks.{base_links, type_links}

-- one link more in front
module _ (l : Link) (links : List Link) where
  -- it changes nothing past its end, or at another type
  bases_same : (t first : ℕ) (names : List (List ℕ)) → ((k : ℕ) → first ≤ k → is_link t k l ≡ false) → base_links (l ∷ links) t first names ≡ base_links links t first names
  bases_same t first [] f = refl
  bases_same t first (name ∷ names) f =
      let more = bases_same t (first + 1) names (λ k h. f k (omega arith)) in
      ap (λ x. cond (x || has_link links t first) (link t first ∷ base_links (l ∷ links) t (first + 1) names) (base_links (l ∷ links) t (first + 1) names)) (f first (omega arith))
      ∙ ap (λ ls. cond (has_link links t first) (link t first ∷ ls) ls) more

  bases_more : (t first : ℕ) (names : List (List ℕ)) → length (base_links (l ∷ links) t first names) ≤ length (base_links links t first names) + 1
  bases_more t first [] = omega arith
  bases_more t first (name ∷ names) =
      ⊎_elim
      (λ here.
      let at = eqb-true _ _ (and_parts (eqb l.from t) (eqb l.to first) here).1 in
      hit (is_link t first l) (has_link links t first) (link t first) (base_links (l ∷ links) t (first + 1) names) (base_links links t (first + 1) names)
      (ap length (bases_same t (first + 1) names (λ k h. and_right (eqb l.from t) _ (ne_eqb l.to k (λ e. omega arith))))))
      (λ other. miss (is_link t first l) (has_link links t first) (link t first) (base_links (l ∷ links) t (first + 1) names) (base_links links t (first + 1) names) other (bases_more t (first + 1) names))
      (cases_Bool (is_link t first l))
    where
      hit : (x y : Bool) (one : Link) (ls ms : List Link) → length ls ≡ length ms → length (cond (x || y) (one ∷ ls) ls) ≤ length (cond y (one ∷ ms) ms) + 1
      hit true true one ls ms e = omega arith
      hit true false one ls ms e = omega arith
      hit false true one ls ms e = omega arith
      hit false false one ls ms e = omega arith

      miss : (x y : Bool) (one : Link) (ls ms : List Link) → x ≡ false → length ls ≤ length ms + 1 → length (cond (x || y) (one ∷ ls) ls) ≤ length (cond y (one ∷ ms) ms) + 1
      miss true true one ls ms e h = omega arith
      miss true false one ls ms e h = absurd (true≢false e)
      miss false true one ls ms e h = omega arith
      miss false false one ls ms e h = omega arith

  other_type : (t k : ℕ) → (l.from ≡ t → ⊥) → is_link t k l ≡ false
  other_type t k f = and_left (eqb l.from t) _ (ne_eqb l.from t f)

  types_same : (all : List (List ℕ)) (first : ℕ) (names : List (List ℕ)) → l.from < first → type_links (l ∷ links) all first names ≡ type_links links all first names
  types_same all first [] h = refl
  types_same all first (name ∷ names) h =
      ap₂ (λ (xs ys : List Link). xs ++ ys) (bases_same first 0 all (λ k p. other_type first k (λ e. omega arith))) (types_same all (first + 1) names (omega arith))

  types_more : (all : List (List ℕ)) (first : ℕ) (names : List (List ℕ)) → length (type_links (l ∷ links) all first names) ≤ length (type_links links all first names) + 1
  types_more all first [] = omega arith
  types_more all first (name ∷ names) =
      let long = length-append (base_links (l ∷ links) first 0 all) (type_links (l ∷ links) all (first + 1) names) in
      let was = length-append (base_links links first 0 all) (type_links links all (first + 1) names) in
      ⊎_elim
      (λ same. omega (arith, bases_more first 0 all, ap length (types_same all (first + 1) names (omega arith))))
      (λ other. omega (arith, ap length (bases_same first 0 all (λ k p. other_type first k other)), types_more all (first + 1) names))
      (cases_eq l.from first)

no_bases_lem : (t first : ℕ) (names : List (List ℕ)) → base_links [] t first names ≡ []
no_bases_lem t first [] = refl
no_bases_lem t first (name ∷ names) = no_bases_lem t (first + 1) names

no_types : (all : List (List ℕ)) (first : ℕ) (names : List (List ℕ)) → type_links [] all first names ≡ []
no_types all first [] = refl
no_types all first (name ∷ names) = ap (λ ls. ls ++ type_links [] all (first + 1) names) (no_bases_lem first 0 all) ∙ no_types all (first + 1) names

pub few_printed : (links : List Link) (all : List (List ℕ)) (first : ℕ) (names : List (List ℕ)) → length (type_links links all first names) ≤ length links
few_printed [] all first names = omega (arith, ap length (no_types all first names))
few_printed (l ∷ links) all first names = omega (arith, types_more l links all first names, few_printed links all first names)
