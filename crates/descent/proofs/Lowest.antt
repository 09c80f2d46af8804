-- The lowest number that passes a test.
use Rattle.std.proofs.Common.{◌≡◌, ℕ, zero, suc, ◌+◌, ◌-◌, ◌<◌, ◌≤◌, Bool, true, false, cond, ◌⊎◌, Some, None, Option, sym, refl, ap, ◌∙◌, inl, inr, ⊎_elim, arith}
use Rattle.std.proofs.lemmas.Bool.{cases_Bool, cases_eq}
use Rattle.std.proofs.lemmas.Option.{none-some}
use Rattle.descent.specs.Computed.{lowest}

one_less : (n t : ℕ) → t < n → n - t ≡ suc (n - (t + 1))
one_less n t h = omega arith

module _ (test : ℕ → Bool) where
  step : (n t : ℕ) → t < n → lowest test t (n - t) ≡ cond (test t) (Some t) (lowest test (t + 1) (n - (t + 1)))
  step n t h = ap (lowest test t) (one_less n t h)

  -- a scan upwards: where the test passes, where it fails, and at the end
  pub lowest_hit : (n t : ℕ) → t < n → test t ≡ true → lowest test t (n - t) ≡ Some t
  lowest_hit n t h e = step n t h ∙ ap (λ b. cond b (Some t) (lowest test (t + 1) (n - (t + 1)))) e

  pub lowest_miss : (n t : ℕ) → t < n → test t ≡ false → lowest test (t + 1) (n - (t + 1)) ≡ lowest test t (n - t)
  lowest_miss n t h e = sym (step n t h ∙ ap (λ b. cond b (Some t) (lowest test (t + 1) (n - (t + 1)))) e)

  pub lowest_end : (n t : ℕ) → n ≤ t → lowest test t (n - t) ≡ None
  lowest_end n t h = let z : n - t ≡ 0 = omega arith in ap (lowest test t) z

  -- what is found passes the test and is below the end
  pub lowest_some : (from m t : ℕ) → lowest test from m ≡ Some t → (test t ≡ true) × (t < from + m)
  lowest_some from zero t e = absurd (none-some t e)
  lowest_some from (suc m) t e =
      ⊎_elim
      (λ f.
      let q : Some from ≡ Some t = sym (ap (λ b. cond b (Some from) (lowest test (from + 1) m)) f) ∙ e in
      let s : from ≡ t = cc in
      (ap test (sym s) ∙ f, omega arith))
      (λ f.
      let q : lowest test (from + 1) m ≡ Some t = sym (ap (λ b. cond b (Some from) (lowest test (from + 1) m)) f) ∙ e in
      let r = lowest_some (from + 1) m t q in
      (r.0, omega (arith, r.1)))
      (cases_Bool (test from))

  -- where none is found, none passes
  pub lowest_none : (from m t : ℕ) → lowest test from m ≡ None → from ≤ t → t < from + m → test t ≡ false
  lowest_none from zero t e h k = let z : ⊥ = omega arith in absurd z
  lowest_none from (suc m) t e h k =
      ⊎_elim
      (λ f. absurd (none-some from (sym e ∙ ap (λ b. cond b (Some from) (lowest test (from + 1) m)) f)))
      (λ f.
      let q : lowest test (from + 1) m ≡ None = sym (ap (λ b. cond b (Some from) (lowest test (from + 1) m)) f) ∙ e in
      ⊎_elim (λ s. ap test s ∙ f) (λ s. lowest_none (from + 1) m t q (omega arith) (omega arith)) (cases_eq t from))
      (cases_Bool (test from))

-- what is found is the first
pub lowest-first : (test : ℕ → Bool) (from m t u : ℕ) → lowest test from m ≡ Some t → from ≤ u → u < t → test u ≡ false
lowest-first test from zero t u e h k = absurd (none-some t e)
lowest-first test from (suc m) t u e h k =
    ⊎_elim
    (λ f.
    let q : Some from ≡ Some t = sym (ap (λ b. cond b (Some from) (lowest test (from + 1) m)) f) ∙ e in
    let s : from ≡ t = cc in
    let z : ⊥ = omega arith in absurd z)
    (λ f.
    let q : lowest test (from + 1) m ≡ Some t = sym (ap (λ b. cond b (Some from) (lowest test (from + 1) m)) f) ∙ e in
    ⊎_elim (λ s. ap test s ∙ f) (λ s. lowest-first test (from + 1) m t u q (omega arith) k) (cases_eq u from))
    (cases_Bool (test from))

pub option_cases : (o : Option ℕ) → (o ≡ None) ⊎ ((t : ℕ) × (o ≡ Some t))
option_cases None = inl refl
option_cases (Some t) = inr (t, refl)

-- two tests that agree below the end find the same
pub lowest_same : (p q : ℕ → Bool) (from m : ℕ) → ((t : ℕ) → t < from + m → p t ≡ q t) → lowest p from m ≡ lowest q from m
lowest_same p q from zero f = refl
lowest_same p q from (suc m) f =
    ap (λ b. cond b (Some from) (lowest p (from + 1) m)) (f from (omega arith))
    ∙ ap (λ o. cond (q from) (Some from) o) (lowest_same p q (from + 1) m (λ t h. f t (omega arith)))
