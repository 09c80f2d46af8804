-- How many numbers below n pass a test.
use Rattle.std.proofs.Common.{◌≡◌, ℕ, zero, suc, ◌+◌, ◌<◌, ◌≤◌, Bool, true, false, cond, sym, refl, ap, ◌∙◌, ⊎_elim, arith}
use Rattle.std.proofs.lemmas.Bool.{cases_Bool, cases_eq}

abbrev pub tally : ℕ → (ℕ → Bool) → ℕ
tally zero p = 0
tally (suc n) p = cond (p n) 1 0 + tally n p

pub tally_yes : (n : ℕ) (p : ℕ → Bool) → p n ≡ true → tally (suc n) p ≡ 1 + tally n p
tally_yes n p e = ap (λ b. cond b 1 0 + tally n p) e

pub tally_no : (n : ℕ) (p : ℕ → Bool) → p n ≡ false → tally (suc n) p ≡ 0 + tally n p
tally_no n p e = ap (λ b. cond b 1 0 + tally n p) e

pub tally_le : (n : ℕ) (p : ℕ → Bool) → tally n p ≤ n
tally_le zero p = omega arith
tally_le (suc n) p =
    let r = tally_le n p in
    ⊎_elim (λ e. omega (arith, tally_yes n p e, r)) (λ e. omega (arith, tally_no n p e, r)) (cases_Bool (p n))

-- none passes
pub tally_none : (n : ℕ) → tally n (λ _. false) ≡ 0
tally_none zero = refl
tally_none (suc n) = omega (arith, tally_no n (λ _. false) refl, tally_none n)

-- fewer than n pass: one does not
pub tally_gap : (n : ℕ) (p : ℕ → Bool) → tally n p < n → (t : ℕ) × (t < n) × (p t ≡ false)
tally_gap zero p h = let z : ⊥ = omega arith in absurd z
tally_gap (suc n) p h =
    ⊎_elim
    (λ e.
    let k : tally n p < n = omega (arith, tally_yes n p e) in
    let r = tally_gap n p k in
    (r.0, omega (arith, r.1), r.2))
    (λ e. (n, omega arith, e)) (cases_Bool (p n))

-- n pass: each does
pub tally_full : (n : ℕ) (p : ℕ → Bool) → tally n p ≡ n → (t : ℕ) → t < n → p t ≡ true
tally_full zero p e t h = let z : ⊥ = omega arith in absurd z
tally_full (suc n) p e t h =
    ⊎_elim
    (λ f.
    let k : tally n p ≡ n = omega (arith, tally_yes n p f) in
    ⊎_elim (λ q. ap p q ∙ f) (λ q. tally_full n p k t (omega arith)) (cases_eq t n))
    (λ f. let z : ⊥ = omega (arith, tally_le n p, tally_no n p f) in absurd z)
    (cases_Bool (p n))

pub tally_same : (n : ℕ) (p q : ℕ → Bool) → ((u : ℕ) → u < n → q u ≡ p u) → tally n q ≡ tally n p
tally_same zero p q f = refl
tally_same (suc n) p q f =
    ap (λ b. cond b 1 0 + tally n q) (f n (omega arith)) ∙ ap (λ m. cond (p n) 1 0 + m) (tally_same n p q (λ u h. f u (omega arith)))

-- one more passes
pub tally_more : (n : ℕ) (p q : ℕ → Bool) (t : ℕ) → t < n → p t ≡ false → q t ≡ true → ((u : ℕ) → (u ≡ t → ⊥) → q u ≡ p u) → tally n q ≡ tally n p + 1
tally_more zero p q t h a b f = let z : ⊥ = omega arith in absurd z
tally_more (suc n) p q t h a b f =
    ⊎_elim
    (λ e.
    let s : tally n q ≡ tally n p = tally_same n p q (λ u k. f u (λ w. omega arith)) in
    omega (arith, tally_yes n q (ap q (sym e) ∙ b), tally_no n p (ap p (sym e) ∙ a)))
    (λ e.
    let s : tally n q ≡ tally n p + 1 = tally_more n p q t (omega arith) a b f in
    let x : q n ≡ p n = f n (λ w. e (sym w)) in
    omega (arith, ap (λ b. cond b 1 0 + tally n q) x))
    (cases_eq t n)
