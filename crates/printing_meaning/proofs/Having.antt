-- Whether links have one from a type to another.
use Rattle.std.proofs.Common.{◌≡◌, ℕ, zero, suc, true, false, eqb, ◌⊎◌, List, [], ◌∷◌, ◌++◌, sym, refl, inl, inr, ⊎_elim, arith}
use Rattle.std.proofs.lemmas.Bool.{and_parts, and_from, or_cases, or_left, or_right, eq-eqb, eqb-true, both_ways}
use Rattle.descent.specs.declared.link.Link.{Link}
use Rattle.descent.specs.Links.{link, Linked}
use Rattle.hierarchy.specs.Entering.{is_link, has_link}

pub has_from_linked : (links : List Link) (a b : ℕ) → Linked links a b → has_link links a b ≡ true
has_from_linked [] a b (k, h, e, f) = absurd (omega arith)
has_from_linked (l ∷ links) a b (zero, h, e, f) = or_left (is_link a b l) _ (and_from _ _ (eq-eqb _ _ e) (eq-eqb _ _ f))
has_from_linked (l ∷ links) a b (suc k, h, e, f) = or_right (is_link a b l) _ (has_from_linked links a b (k, omega arith, e, f))

pub linked_from_has : (links : List Link) (a b : ℕ) → has_link links a b ≡ true → Linked links a b
linked_from_has [] a b e = absurd (both_ways false refl e)
linked_from_has (l ∷ links) a b e =
    ⊎_elim
    (λ here. let p = and_parts (eqb l.from a) (eqb l.to b) here in (0, omega arith, eqb-true _ _ p.0, eqb-true _ _ p.1))
    (λ there. let (k, h, p, q) = linked_from_has links a b there in (suc k, omega arith, p, q))
    (or_cases (is_link a b l) (has_link links a b) e)

pub has_append : (xs ys : List Link) (a b : ℕ) → has_link (xs ++ ys) a b ≡ true → (has_link xs a b ≡ true) ⊎ (has_link ys a b ≡ true)
has_append [] ys a b e = inr e
has_append (x ∷ xs) ys a b e =
    ⊎_elim
    (λ here. inl (or_left (is_link a b x) _ here))
    (λ there. ⊎_elim (λ h. inl (or_right (is_link a b x) _ h)) (λ h. inr h) (has_append xs ys a b there))
    (or_cases (is_link a b x) (has_link (xs ++ ys) a b) e)

pub has_left : (xs ys : List Link) (a b : ℕ) → has_link xs a b ≡ true → has_link (xs ++ ys) a b ≡ true
has_left [] ys a b e = absurd (both_ways false refl e)
has_left (x ∷ xs) ys a b e = ⊎_elim (λ h. or_left (is_link a b x) _ h) (λ h. or_right (is_link a b x) _ (has_left xs ys a b h)) (or_cases (is_link a b x) (has_link xs a b) e)

pub has_right : (xs ys : List Link) (a b : ℕ) → has_link ys a b ≡ true → has_link (xs ++ ys) a b ≡ true
has_right [] ys a b e = e
has_right (x ∷ xs) ys a b e = or_right (is_link a b x) _ (has_right xs ys a b e)

-- the ends of the one link that there is
pub ends_of : (t k a b : ℕ) → is_link a b (link t k) ≡ true → (a ≡ t) × (b ≡ k)
ends_of t k a b e = let p = and_parts (eqb t a) (eqb k b) e in (sym (eqb-true t a p.0), sym (eqb-true k b p.1))

pub is_itself : (t k : ℕ) → is_link t k (link t k) ≡ true
is_itself t k = and_from (eqb t t) (eqb k k) (eq-eqb t t refl) (eq-eqb k k refl)
