-- The lowest position on a chain of the types that have a property: it is one, and it is the computed one.
use Rattle.std.proofs.Common.{◌≡◌, ℕ, zero, suc, ◌<◌, ◌≤◌, min, Bool, true, false, cond, ◌&&◌, eqb, ◌⊎◌, List, get_or, Decides, sym, refl, ap, ◌∙◌, subst, inl, inr, ⊎_elim, arith}
use Rattle.std.proofs.lemmas.Bool.{cases_eq, cases_lt, cases_Bool, cond-true, cond-false, and_parts, and_from, both_ways, eqb-true, eq-eqb}
use Rattle.rows.specs.Rows.{lowest_position, Lowest}

module _ (n : ℕ) (chains positions : List ℕ) where
  pub lowest_like : (R S : ℕ → Type 0) (c v : ℕ) → ((b : ℕ) → b < n → get_or chains b 0 ≡ c → (R b → S b) × (S b → R b)) → Lowest n chains positions R c v → Lowest n chains positions S c v
  lowest_like R S c v like m = record {
    bound = m.bound;
    low = λ b h e s. m.low b h e ((like b h e).1 s);
    hit = ⊎_elim inl (λ x. inr (x.0, x.1, x.2, x.3, (like x.0 x.1 x.2).0 x.4)) m.hit;
  }

  -- the least of two is the lowest of both
  pub lowest_min : (R S Q : ℕ → Type 0) (c u v : ℕ) → ((b : ℕ) → Q b → R b ⊎ S b) → ((b : ℕ) → R b → Q b) → ((b : ℕ) → S b → Q b)
      → Lowest n chains positions R c u → Lowest n chains positions S c v → Lowest n chains positions Q c (min u v)
  lowest_min R S Q c u v split left right m k =
      record {
        bound = omega (arith, m.bound);
        low = λ b i p q. ⊎_elim (λ r. omega (arith, m.low b i p r)) (λ s. omega (arith, k.low b i p s)) (split b q);
        hit = ⊎_elim
            (λ (l : u < v). let e : min u v ≡ u = omega arith in
            ⊎_elim (λ x. inl (e ∙ x)) (λ x. inr (x.0, x.1, x.2, x.3 ∙ sym e, left x.0 x.4)) m.hit)
            (λ (l : v ≤ u). let e : min u v ≡ v = omega arith in
            ⊎_elim (λ x. inl (e ∙ x)) (λ x. inr (x.0, x.1, x.2, x.3 ∙ sym e, right x.0 x.4)) k.hit)
            (cases_lt u v);
      }

  -- there is only one
  pub lowest_one : (R : ℕ → Type 0) (c u v : ℕ) → Lowest n chains positions R c u → Lowest n chains positions R c v → u ≡ v
  lowest_one R c u v m k =
      let le : u ≤ v = half u v m k in
      let ge : v ≤ u = half v u k m in omega arith
    where
      half : (u v : ℕ) → Lowest n chains positions R c u → Lowest n chains positions R c v → u ≤ v
      half u v m k = ⊎_elim (λ e. omega (arith, m.bound)) (λ x. omega (arith, m.low x.0 x.1 x.2 x.4, x.3)) k.hit

module _ (chains positions : List ℕ) (R : ℕ → Type 0) (test : ℕ → Bool) (decides : (b : ℕ) → Decides (test b) (R b)) (c : ℕ) where
  low_step : (n p v : ℕ) → ((get_or chains n 0 ≡ c) × R n → p ≤ get_or positions n 0) → p ≤ 65535 → (p ≡ 65535) ⊎ ((get_or chains n 0 ≡ c) × (get_or positions n 0 ≡ p) × R n)
      → Lowest n chains positions R c v → Lowest (suc n) chains positions R c (min p v)
  low_step n p v low le hit m = record {
    bound = omega (arith, m.bound);
    low = λ b h e r. ⊎_elim
        (λ (s : b ≡ n). let at = low (ap (λ x. get_or chains x 0) (sym s) ∙ e, subst R s r) in let z = ap (λ x. get_or positions x 0) s in omega arith)
        (λ (o : b ≡ n → ⊥). omega (arith, m.low b (omega arith) e r))
        (cases_eq b n);
    hit = ⊎_elim
        (λ (l : p < v). let e : min p v ≡ p = omega arith in
        ⊎_elim (λ x. inl (e ∙ x)) (λ x. inr (n, omega arith, x.0, x.1 ∙ sym e, x.2)) hit)
        (λ (l : v ≤ p). let e : min p v ≡ v = omega arith in
        ⊎_elim (λ x. inl (e ∙ x)) (λ x. inr (x.0, omega (arith, x.1), x.2, x.3 ∙ sym e, x.4)) m.hit)
        (cases_lt p v);
  }

  -- the computed one is it
  pub lowest_computed : (n : ℕ) → ((b : ℕ) → b < n → get_or positions b 0 ≤ 65535) → Lowest n chains positions R c (lowest_position test chains positions c n)
  lowest_computed zero fits = record { bound = omega arith; low = λ b h e r. let none : ⊥ = omega arith in absurd none; hit = inl refl }
  lowest_computed (suc n) fits =
      let passes = eqb (get_or chains n 0) c && test n in
      let rest = lowest_computed n (λ b h. fits b (omega arith)) in
      ⊎_elim
      (λ (e : passes ≡ true).
      let parts = and_parts (eqb (get_or chains n 0) c) (test n) e in
      let p : cond passes (get_or positions n 0) 65535 ≡ get_or positions n 0 = cond-true passes (get_or positions n 0) 65535 e in
      subst (λ (x : ℕ). Lowest (suc n) chains positions R c (min x (lowest_position test chains positions c n))) (sym p)
      (low_step n (get_or positions n 0) _ (λ _. omega arith) (fits n (omega arith)) (inr (eqb-true (get_or chains n 0) c parts.0, refl, (decides n).0 parts.1)) rest))
      (λ (e : passes ≡ false).
      let p : cond passes (get_or positions n 0) 65535 ≡ 65535 = cond-false passes (get_or positions n 0) 65535 e in
      subst (λ (x : ℕ). Lowest (suc n) chains positions R c (min x (lowest_position test chains positions c n))) (sym p)
      (low_step n 65535 _ (λ (s, r). absurd (both_ways passes e (and_from _ _ (eq-eqb (get_or chains n 0) c s) ((decides n).1 r)))) (omega arith) (inl refl) rest))
      (cases_Bool passes)
