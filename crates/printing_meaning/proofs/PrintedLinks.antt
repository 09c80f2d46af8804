-- The links that are printed, in their order: by the number of the type, then by that of the base.
use Rattle.std.proofs.Common.{◌≡◌, ℕ, ◌+◌, ◌<◌, ◌≤◌, true, false, cond, ◌⊎◌, List, [], ◌∷◌, ◌++◌, length, sym, refl, subst, inl, inr, ⊎_elim, arith}
use Rattle.std.proofs.lemmas.Bool.{cases_Bool, cases_eq, or_cases, or_left, or_right, both_ways, cond-true, cond-false}
use Rattle.descent.specs.declared.link.Link.{Link}
use Rattle.descent.specs.Links.{link}
use Rattle.hierarchy.specs.Entering.{is_link, has_link}
use Rattle.printing_meaning.proofs.Having.{has_append, has_left, has_right, ends_of, is_itself}

-- those from type t, where the bases are numbered from `first` on
abbrev pub base_links : List Link → ℕ → ℕ → List (List ℕ) → List Link
base_links links t first [] = []
base_links links t first (name ∷ names) =
    let more = base_links links t (first + 1) names in
    cond (has_link links t first) (link t first ∷ more) more

-- those of the types that are numbered from `first` on
abbrev pub type_links : List Link → List (List ℕ) → ℕ → List (List ℕ) → List Link
type_links links all first [] = []
type_links links all first (name ∷ names) = base_links links first 0 all ++ type_links links all (first + 1) names

module _ (links : List Link) where
  -- a printed link is one of the links
  bases_had : (t first : ℕ) (names : List (List ℕ)) (a b : ℕ) → has_link (base_links links t first names) a b ≡ true → (a ≡ t) × (has_link links t b ≡ true)
  bases_had t first [] a b e = absurd (both_ways false refl e)
  bases_had t first (name ∷ names) a b e =
      ⊎_elim
      (λ yes.
      ⊎_elim
      (λ here. let p = ends_of t first a b here in (p.0, subst (λ k. has_link links t k ≡ true) (sym p.1) yes))
      (λ there. bases_had t (first + 1) names a b there)
      (or_cases (is_link a b (link t first)) (has_link more a b) (subst (λ ls. has_link ls a b ≡ true) (cond-true (has_link links t first) (link t first ∷ more) more yes) e)))
      (λ no. bases_had t (first + 1) names a b (subst (λ ls. has_link ls a b ≡ true) (cond-false (has_link links t first) (link t first ∷ more) more no) e))
      (cases_Bool (has_link links t first))
    where
      more : List Link
      more = base_links links t (first + 1) names

  pub types_had : (all : List (List ℕ)) (first : ℕ) (names : List (List ℕ)) (a b : ℕ) → has_link (type_links links all first names) a b ≡ true → has_link links a b ≡ true
  types_had all first [] a b e = absurd (both_ways false refl e)
  types_had all first (name ∷ names) a b e =
      ⊎_elim
      (λ here. let p = bases_had first 0 all a b here in subst (λ t. has_link links t b ≡ true) (sym p.0) p.1)
      (λ there. types_had all (first + 1) names a b there)
      (has_append (base_links links first 0 all) (type_links links all (first + 1) names) a b e)

  -- a link between the types is printed
  bases_have : (t first : ℕ) (names : List (List ℕ)) (b : ℕ) → first ≤ b → b < first + length names → has_link links t b ≡ true → has_link (base_links links t first names) t b ≡ true
  bases_have t first [] b h k e = absurd (omega arith)
  bases_have t first (name ∷ names) b h k e =
      ⊎_elim
      (λ same.
      let here : has_link links t first ≡ true = subst (λ x. has_link links t x ≡ true) (sym same) e in
      let has : has_link (link t first ∷ more) t b ≡ true = or_left (is_link t b (link t first)) _ (subst (λ x. is_link t x (link t first) ≡ true) same (is_itself t first)) in
      subst (λ ls. has_link ls t b ≡ true) (sym (cond-true (has_link links t first) (link t first ∷ more) more here)) has)
      (λ other.
      let later = bases_have t (first + 1) names b (omega arith) (omega arith) e in
      ⊎_elim
      (λ yes. subst (λ ls. has_link ls t b ≡ true) (sym (cond-true (has_link links t first) (link t first ∷ more) more yes)) (or_right (is_link t b (link t first)) _ later))
      (λ no. subst (λ ls. has_link ls t b ≡ true) (sym (cond-false (has_link links t first) (link t first ∷ more) more no)) later)
      (cases_Bool (has_link links t first)))
      (cases_eq first b)
    where
      more : List Link
      more = base_links links t (first + 1) names

  pub types_have : (all : List (List ℕ)) (first : ℕ) (names : List (List ℕ)) (a b : ℕ) → first ≤ a → a < first + length names → b < length all → has_link links a b ≡ true → has_link (type_links links all first names) a b ≡ true
  types_have all first [] a b h k l e = absurd (omega arith)
  types_have all first (name ∷ names) a b h k l e =
      ⊎_elim
      (λ same.
      let here : has_link links first b ≡ true = subst (λ x. has_link links x b ≡ true) (sym same) e in
      has_left (base_links links first 0 all) _ a b (subst (λ x. has_link (base_links links first 0 all) x b ≡ true) same (bases_have first 0 all b (omega arith) (omega arith) here)))
      (λ other. has_right (base_links links first 0 all) _ a b (types_have all (first + 1) names a b (omega arith) (omega arith) l e))
      (cases_eq first a)

-- all links stand before the one from t to k in that order
abbrev pub Before : List Link → ℕ → ℕ → Type 0
Before done t k = (a b : ℕ) → has_link done a b ≡ true → (a < t) ⊎ ((a ≡ t) × (b < k))

pub before-none : (t k : ℕ) → Before [] t k
before-none t k a b e = absurd (both_ways false refl e)

-- that link itself is new then
pub before_new : (done : List Link) (t k : ℕ) → Before done t k → has_link done t k ≡ false
before_new done t k h = ⊎_elim (λ yes. absurd (⊎_elim (λ (p : t < t). omega arith) (λ (p : (t ≡ t) × (k < k)). let q = p.1 in omega arith) (h t k yes))) (λ no. no) (cases_Bool (has_link done t k))

before_later : (done : List Link) (t j k : ℕ) → j ≤ k → Before done t j → Before done t k
before_later done t j k m h a b e = ⊎_elim (λ p. inl p) (λ p. let q = p.1 in inr (p.0, omega arith)) (h a b e)

pub before_next_base : (done : List Link) (t k : ℕ) → Before done t k → Before done t (k + 1)
before_next_base done t k h = before_later done t k (k + 1) (omega arith) h

pub before_more : (done : List Link) (t k : ℕ) → Before done t k → Before (done ++ (link t k ∷ [])) t (k + 1)
before_more done t k h a b e =
    ⊎_elim
    (λ old. before_next_base done t k h a b old)
    (λ new. ⊎_elim (λ here. let p = ends_of t k a b here in let q = p.1 in inr (p.0, omega arith)) (λ there. absurd (both_ways false refl there)) (or_cases (is_link a b (link t k)) false new))
    (has_append done (link t k ∷ []) a b e)

-- the links of a type, entered after those before
pub before_bases : (links done : List Link) (t : ℕ) (names : List (List ℕ)) → Before done t 0 → Before (done ++ base_links links t 0 names) (t + 1) 0
before_bases links done t names h a b e =
    inl (⊎_elim
    (λ old. ⊎_elim (λ p. omega arith) (λ p. let q = p.0 in omega arith) (h a b old))
    (λ new. let p = bases_had links t 0 names a b new in let q = p.0 in omega arith)
    (has_append done (base_links links t 0 names) a b e))
