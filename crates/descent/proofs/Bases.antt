-- Where every common base is undercut by another, there is none.
use Rattle.std.proofs.Common.{◌≡◌, ℕ, zero, suc, ◌<◌, ◌≤◌, sym, ◌∙◌, subst, ⊎_elim, arith}
use Rattle.std.proofs.lemmas.Bool.{cases_eq}
use Rattle.descent.specs.Nearests.{Common, Undercuts}

module _ (n : ℕ) (R : ℕ → ℕ → Type 0) (a b : ℕ) (reflexive : (x : ℕ) → x < n → R x x) (transitive : (x y z : ℕ) → R x y → R y z → R x z)
    (undercut : (c : ℕ) → c < n → Common n R a b c → (d : ℕ) × Undercuts n R a b c d) where
  -- each common base has one from i on that is related to it: at i itself, the one that undercuts it has one, and that is not i
  common_from : (i c : ℕ) → Common n R a b c → (e : ℕ) × (i ≤ e) × Common n R a b e × R e c
  common_from zero c here = (c, omega arith, here, reflexive c here.0)
  common_from (suc i) c here =
      let low = common_from i c here in
      ⊎_elim
      (λ (same : low.0 ≡ i).
      let under = undercut low.0 low.2.0 low.2 in
      let high = common_from i under.0 under.1.0 in
      let other : high.0 ≡ i → ⊥ = λ e. under.1.2 (subst (λ (x : ℕ). R x under.0) (e ∙ sym same) high.3) in
      (high.0, (omega (arith, other)), high.2, transitive high.0 low.0 c (transitive high.0 under.0 low.0 high.3 under.1.1) low.3))
      (λ (other : low.0 ≡ i → ⊥). (low.0, (omega arith), low.2, low.3))
      (cases_eq low.0 i)

  pub no_common_base : (c : ℕ) → Common n R a b c → ⊥
  no_common_base c here = let past = common_from n c here in omega (arith, past.1, past.2.0)
