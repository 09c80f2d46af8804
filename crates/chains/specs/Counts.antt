-- How many numbers below a bound pass a test.
use Rattle.std.specs.Prelude.{◌≡◌, ℕ, zero, suc, ◌+◌, ◌<◌, ◌≤◌, Bool, true, false, cond, ◌≢◌, refl}
use Rattle.std.proofs.Common.{sym, ap, subst, ◌∙◌, ⊎_elim, arith}
use Rattle.std.proofs.lemmas.Bool.{cases_eq, cases_lt, cases_Bool}
use Rattle.chains.specs.Counting.{passing}

pub passing_le : (m : ℕ) (p : ℕ → Bool) → passing m p ≤ m
passing_le zero p = omega arith
passing_le (suc m) p =
    ⊎_elim
    (λ (e : p m ≡ true). omega (arith, passing_le m p, ap (λ b. cond b 1 0 + passing m p) e))
    (λ (e : p m ≡ false). omega (arith, passing_le m p, ap (λ b. cond b 1 0 + passing m p) e))
    (cases_Bool (p m))

pub passing_same : (m : ℕ) (p q : ℕ → Bool) → ((k : ℕ) → k < m → q k ≡ p k) → passing m q ≡ passing m p
passing_same zero p q f = refl
passing_same (suc m) p q f = ap (λ b. cond b 1 0 + passing m q) (f m (omega arith)) ∙ ap (λ x. cond (p m) 1 0 + x) (passing_same m p q (λ k h. f k (omega arith)))

pub passing-none : (m : ℕ) (p : ℕ → Bool) → ((k : ℕ) → k < m → p k ≡ false) → passing m p ≡ 0
passing-none zero p f = refl
passing-none (suc m) p f = omega (arith, ap (λ b. cond b 1 0 + passing m p) (f m (omega arith)), passing-none m p (λ k h. f k (omega arith)))

pub passing_all : (m : ℕ) (p : ℕ → Bool) → ((k : ℕ) → k < m → p k ≡ true) → passing m p ≡ m
passing_all zero p f = refl
passing_all (suc m) p f = omega (arith, ap (λ b. cond b 1 0 + passing m p) (f m (omega arith)), passing_all m p (λ k h. f k (omega arith)))

-- one more passes
pub passing_more : (m : ℕ) (p q : ℕ → Bool) (t : ℕ) → t < m → p t ≡ false → q t ≡ true → ((k : ℕ) → (k ≢ t) → q k ≡ p k) → passing m q ≡ passing m p + 1
passing_more zero p q t h a b f = let z : ⊥ = omega arith in absurd z
passing_more (suc m) p q t h a b f =
    ⊎_elim
    (λ (e : t ≡ m).
    let s : passing m q ≡ passing m p = passing_same m p q (λ k l. f k (λ w. omega arith)) in
    omega (arith, s, ap (λ b. cond b 1 0 + passing m q) (ap q (sym e) ∙ b), ap (λ b. cond b 1 0 + passing m p) (ap p (sym e) ∙ a)))
    (λ (e : t ≡ m → ⊥).
    let s : passing m q ≡ passing m p + 1 = passing_more m p q t (omega arith) a b f in
    omega (arith, s, ap (λ b. cond b 1 0 + passing m q) (f m (λ w. e (sym w)))))
    (cases_eq t m)

pub passing_yes : (m : ℕ) (p : ℕ → Bool) → p m ≡ true → passing (suc m) p ≡ 1 + passing m p
passing_yes m p e = ap (λ b. cond b 1 0 + passing m p) e

pub passing_no : (m : ℕ) (p : ℕ → Bool) → p m ≡ false → passing (suc m) p ≡ 0 + passing m p
passing_no m p e = ap (λ b. cond b 1 0 + passing m p) e

-- no fewer below a higher bound
pub passing_up : (k m : ℕ) (p : ℕ → Bool) → k ≤ m → passing k p ≤ passing m p
passing_up k zero p h = let e : k ≡ 0 = omega arith in subst (λ (x : ℕ). passing x p ≤ 0) (sym e) (omega arith)
passing_up k (suc m) p h =
    ⊎_elim
    (λ (e : k ≡ suc m). subst (λ (x : ℕ). passing x p ≤ passing (suc m) p) (sym e) (omega arith))
    (λ (e : k ≡ suc m → ⊥).
    let r = passing_up k m p (omega arith) in
    ⊎_elim (λ f. omega (arith, r, passing_yes m p f)) (λ f. omega (arith, r, passing_no m p f)) (cases_Bool (p m)))
    (cases_eq k (suc m))

-- and more, where the lower bound passes
pub passing_above : (k m : ℕ) (p : ℕ → Bool) → k < m → p k ≡ true → passing k p < passing m p
passing_above k m p h e = omega (arith, passing_yes k p e, passing_up (suc k) m p (omega arith))

-- the c-th that passes
pub passing-at : (m c : ℕ) (p : ℕ → Bool) → c < passing m p → (k : ℕ) × (k < m) × (p k ≡ true) × (passing k p ≡ c)
passing-at zero c p h = let z : ⊥ = omega arith in absurd z
passing-at (suc m) c p h =
    ⊎_elim
    (λ (l : c < passing m p). let r = passing-at m c p l in (r.0, omega (arith, r.1), r.2, r.3))
    (λ (l : passing m p ≤ c).
    ⊎_elim
    (λ (e : p m ≡ true). (m, omega arith, e, omega (arith, passing_yes m p e)))
    (λ (e : p m ≡ false). let z : ⊥ = omega (arith, passing_no m p e) in absurd z)
    (cases_Bool (p m)))
    (cases_lt c (passing m p))
