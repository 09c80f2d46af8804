-- Searching and counting the numbers below a bound.
use Rattle.std.proofs.Common.{◌≡◌, ℕ, zero, suc, ◌+◌, ◌<◌, ◌≤◌, ◌⊎◌, subst, inl, inr, ⊎_elim, arith}
use Rattle.std.proofs.lemmas.Bool.{cases_eq}

-- P is decided
abbrev pub Either : Type 0 → Type 0
Either P = P ⊎ (P → ⊥)

pub either_not : {P : Type 0} → Either P → Either (P → ⊥)
either_not (inl p) = inr (λ no. no p)
either_not (inr none) = inl none

pub either_like : {P Q : Type 0} → (P → Q) → (Q → P) → Either P → Either Q
either_like to from (inl p) = inl (to p)
either_like to from (inr none) = inr (λ q. none (from q))

-- some number below n has P, or none has
pub either_below : (P : ℕ → Type 0) → ((k : ℕ) → Either (P k)) → (n : ℕ) → Either ((k : ℕ) × (k < n) × P k)
either_below P each zero = inr (λ s. omega (arith, s.1))
either_below P each (suc n) =
    ⊎_elim
    (λ (s : (k : ℕ) × (k < n) × P k). inl (s.0, omega (arith, s.1), s.2))
    (λ (none : ((k : ℕ) × (k < n) × P k) → ⊥).
    ⊎_elim
    (λ (here : P n). inl (n, omega arith, here))
    (λ (no : P n → ⊥). inr (λ s.
    ⊎_elim
    (λ (e : s.0 ≡ n). no (subst P e s.2))
    (λ (ne : s.0 ≡ n → ⊥). none (s.0, omega (arith, s.1), s.2))
    (cases_eq s.0 n)))
    (each n))
    (either_below P each n)

abbrev bit : {P : Type 0} → Either P → ℕ
bit (inl _) = 1
bit (inr _) = 0

-- how many numbers below n have P
abbrev pub tally : (P : ℕ → Type 0) → ((k : ℕ) → Either (P k)) → ℕ → ℕ
tally P each zero = 0
tally P each (suc n) = bit (each n) + tally P each n

bit_le : {P Q : Type 0} → (P → Q) → (p : Either P) (q : Either Q) → bit p ≤ bit q
bit_le to (inr _) q = omega arith
bit_le to (inl p) (inl q) = omega arith
bit_le to (inl p) (inr none) = absurd (none (to p))

bit_less : {P Q : Type 0} → (P → ⊥) → Q → (p : Either P) (q : Either Q) → bit p < bit q
bit_less none q (inr _) (inl _) = omega arith
bit_less none q (inl p) other = absurd (none p)
bit_less none q (inr _) (inr nothing) = absurd (nothing q)

module _ (P Q : ℕ → Type 0) (p : (k : ℕ) → Either (P k)) (q : (k : ℕ) → Either (Q k)) (to : (k : ℕ) → P k → Q k) where
  tally_le : (n : ℕ) → tally P p n ≤ tally Q q n
  tally_le zero = omega arith
  tally_le (suc n) = omega (arith, tally_le n, bit_le (to n) (p n) (q n))

  -- fewer numbers have P than Q, where P is within Q and one number has Q alone
  pub tally_less : (n j : ℕ) → j < n → (P j → ⊥) → Q j → tally P p n < tally Q q n
  tally_less zero j h none here = omega arith
  tally_less (suc n) j h none here =
      ⊎_elim
      (λ (e : j ≡ n). omega (arith, tally_le n, bit_less (subst (λ (x : ℕ). P x → ⊥) e none) (subst Q e here) (p n) (q n)))
      (λ (ne : j ≡ n → ⊥). omega (arith, tally_less n j (omega arith) none here, bit_le (to n) (p n) (q n)))
      (cases_eq j n)
