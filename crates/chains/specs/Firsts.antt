-- The first of a list that passes a test, and bases.
use Rattle.std.specs.Prelude.{◌≡◌, ℕ, zero, suc, ◌<◌, Bool, true, false, cond, ◌&&◌, ◌⊎◌, List, [], ◌∷◌, length, Some, None, Option, ◌==◌, ◌≢◌, slice_index, refl}
use Rattle.std.proofs.Common.{sym, ap, ◌∙◌, inl, inr, ⊎_elim, arith}
use Rattle.std.proofs.lemmas.Bool.{and_parts, and_from, or_cases, or_left, or_right, eqb-true, eq-eqb, cases_Bool, both_ways}
use Rattle.descent.specs.declared.link.Link.{Link}
use Rattle.descent.specs.Links.{Linked}
use Rattle.chains.specs.ChainOrder.{first, base}

pub none-some : (t : ℕ) → None ≢ Some t
none-some t e = let z : ◌≡◌ {A = ℕ} 0 1 = cc in omega arith

pub option_cases : (o : Option ℕ) → (o ≡ None) ⊎ ((t : ℕ) × (o ≡ Some t))
option_cases None = inl refl
option_cases (Some t) = inr (t, refl)

module _ (test : ℕ → Bool) where
  first_yes : (x : ℕ) (xs : List ℕ) → test x ≡ true → first test (x ∷ xs) ≡ Some x
  first_yes x xs e = ap (λ b. cond b (Some x) (first test xs)) e

  first_no : (x : ℕ) (xs : List ℕ) → test x ≡ false → first test (x ∷ xs) ≡ first test xs
  first_no x xs e = ap (λ b. cond b (Some x) (first test xs)) e

  -- what stands at r passes, and nothing before it does
  pub first_at : (xs : List ℕ) (r : ℕ) → r < length xs → test (slice_index xs r) ≡ true → ((i : ℕ) → i < r → test (slice_index xs i) ≡ false) → first test xs ≡ Some (slice_index xs r)
  first_at [] r h e f = let z : ⊥ = omega arith in absurd z
  first_at (x ∷ xs) zero h e f = first_yes x xs e
  first_at (x ∷ xs) (suc r) h e f = first_no x xs (f 0 (omega arith)) ∙ first_at xs r (omega arith) e (λ i l. f (suc i) (omega arith))

  pub first_none : (xs : List ℕ) → ((i : ℕ) → i < length xs → test (slice_index xs i) ≡ false) → first test xs ≡ None
  first_none [] f = refl
  first_none (x ∷ xs) f = first_no x xs (f 0 (omega arith)) ∙ first_none xs (λ i l. f (suc i) (omega arith))

  -- what is found passes, and stands in the list
  pub first_some : (xs : List ℕ) (t : ℕ) → first test xs ≡ Some t → (test t ≡ true) × ((i : ℕ) × (i < length xs) × (slice_index xs i ≡ t))
  first_some [] t e = absurd (none-some t e)
  first_some (x ∷ xs) t e =
      ⊎_elim
      (λ (f : test x ≡ true).
      let q : Some x ≡ Some t = sym (first_yes x xs f) ∙ e in
      let s : x ≡ t = cc in
      (ap test (sym s) ∙ f, (0, omega arith, s)))
      (λ (f : test x ≡ false).
      let r = first_some xs t (sym (first_no x xs f) ∙ e) in
      (r.0, (suc r.1.0, omega (arith, r.1.1), r.1.2)))
      (cases_Bool (test x))

-- a base is one exactly where a link runs to it
pub base_linked : (links : List Link) (a b : ℕ) → base links a b ≡ true → Linked links a b
base_linked [] a b e = absurd (both_ways false refl e)
base_linked (l ∷ links) a b e =
    ⊎_elim
    (λ f. let w = and_parts (l.from == a) (l.to == b) f in (0, omega arith, eqb-true _ _ w.0, eqb-true _ _ w.1))
    (λ f. let r = base_linked links a b f in (suc r.0, omega (arith, r.1), r.2, r.3))
    (or_cases (l.from == a && l.to == b) (base links a b) e)

pub linked_base : (links : List Link) (a b : ℕ) → Linked links a b → base links a b ≡ true
linked_base [] a b (k, h, e, f) = let z : ⊥ = omega arith in absurd z
linked_base (l ∷ links) a b (zero, h, e, f) = or_left (l.from == a && l.to == b) _ (and_from _ _ (eq-eqb _ _ e) (eq-eqb _ _ f))
linked_base (l ∷ links) a b (suc k, h, e, f) = or_right (l.from == a && l.to == b) _ (linked_base links a b (k, omega arith, e, f))
