-- The four types of the worked example are ranked and laid out in chains.
use Rattle.std.proofs.Common.{◌≡◌, ℕ, zero, suc, ◌+◌, ◌<◌, List, [], ◌∷◌, get_or, refl, subst, arith}
use Rattle.descent.specs.Links.{no_link, Path, one}
use Rattle.chains.specs.Chains.{Chained}
use Rattle.chains.specs.Ranked.{Ranked}
use Rattle.rows.specs.KeptEntries.{Different}
use Rattle.rows.specs.Worked.{four, FourLaidOut}

each : (P : ℕ → Type 0) → P 0 → P 1 → P 2 → P 3 → (t : ℕ) → t < 4 → P t
each P a b c d zero h = a
each P a b c d (suc zero) h = b
each P a b c d (suc (suc zero)) h = c
each P a b c d (suc (suc (suc zero))) h = d
each P a b c d (suc (suc (suc (suc t)))) h = let none : ⊥ = omega arith in absurd none

abbrev order : List ℕ
order = 0 ∷ 1 ∷ 3 ∷ 2 ∷ []

abbrev chains : List ℕ
chains = 0 ∷ 0 ∷ 0 ∷ 1 ∷ []

abbrev positions : List ℕ
positions = 0 ∷ 1 ∷ 2 ∷ 0 ∷ []

-- a link whose ends have rising ranks
rising_ends : (x y a b : ℕ) → get_or order x 0 < get_or order y 0 → x ≡ a → y ≡ b → get_or order a 0 < get_or order b 0
rising_ends x y a b h e f = subst (λ (v : ℕ). get_or order v 0 < get_or order b 0) e (subst (λ (v : ℕ). get_or order x 0 < get_or order v 0) f h)

four-ranked : Ranked 4 four order order
four-ranked = record {
  within = each (λ k. ((get_or four k no_link).from < 4) × ((get_or four k no_link).to < 4)) (omega arith, omega arith) (omega arith, omega arith) (omega arith, omega arith) (omega arith, omega arith);
  long = refl;
  ranks = each (λ t. (get_or order t 0 < 4) × (get_or order (get_or order t 0) 0 ≡ t)) (omega arith, refl) (omega arith, refl) (omega arith, refl) (omega arith, refl);
  types = each (λ r. (get_or order r 0 < 4) × (get_or order (get_or order r 0) 0 ≡ r)) (omega arith, refl) (omega arith, refl) (omega arith, refl) (omega arith, refl);
  rising = λ a b (k, h, e, f).
      each (λ k. (get_or four k no_link).from ≡ a → (get_or four k no_link).to ≡ b → get_or order a 0 < get_or order b 0)
      (rising_ends 0 1 a b (omega arith)) (rising_ends 0 2 a b (omega arith)) (rising_ends 1 2 a b (omega arith)) (rising_ends 3 2 a b (omega arith)) k h e f;
}

-- the pair of chain and position tells the type
four_apart : (t u : ℕ) → t < 4 → u < 4 → get_or chains t 0 ≡ get_or chains u 0 → get_or positions t 0 ≡ get_or positions u 0 → t ≡ u
four_apart t u h k =
    each (λ t. get_or chains t 0 ≡ get_or chains u 0 → get_or positions t 0 ≡ get_or positions u 0 → t ≡ u)
    (each (λ u. 0 ≡ get_or chains u 0 → 0 ≡ get_or positions u 0 → 0 ≡ u) (λ e f. refl) (λ e f. omega arith) (λ e f. omega arith) (λ e f. omega arith) u k)
    (each (λ u. 0 ≡ get_or chains u 0 → 1 ≡ get_or positions u 0 → 1 ≡ u) (λ e f. omega arith) (λ e f. refl) (λ e f. omega arith) (λ e f. omega arith) u k)
    (each (λ u. 0 ≡ get_or chains u 0 → 2 ≡ get_or positions u 0 → 2 ≡ u) (λ e f. omega arith) (λ e f. omega arith) (λ e f. refl) (λ e f. omega arith) u k)
    (each (λ u. 1 ≡ get_or chains u 0 → 0 ≡ get_or positions u 0 → 3 ≡ u) (λ e f. omega arith) (λ e f. omega arith) (λ e f. omega arith) (λ e f. refl) u k)
    t h

abbrev Follows : ℕ → ℕ → Type 0
Follows t p = (u : ℕ) × (u < 4) × (get_or chains u 0 ≡ get_or chains t 0) × (get_or positions u 0 ≡ p) × Path four u t

four_follows : (t p : ℕ) → t < 4 → get_or positions t 0 ≡ p + 1 → Follows t p
four_follows t p h =
    each (λ t. get_or positions t 0 ≡ p + 1 → Follows t p)
    (λ e. let none : ⊥ = omega arith in absurd none)
    (λ e. (0, omega arith, refl, omega arith, one (0, omega arith, refl, refl)))
    (λ e. (1, omega arith, refl, omega arith, one (2, omega arith, refl, refl)))
    (λ e. let none : ⊥ = omega arith in absurd none)
    t h

abbrev Begins : ℕ → Type 0
Begins c = (t : ℕ) × (t < 4) × (get_or chains t 0 ≡ c) × (get_or positions t 0 ≡ 0)

four-begins : (c : ℕ) → c < 2 → Begins c
four-begins zero h = (0, omega arith, refl, refl)
four-begins (suc zero) h = (3, omega arith, refl, refl)
four-begins (suc (suc c)) h = let none : ⊥ = omega arith in absurd none

four_chained : Chained 4 four chains positions 2
four_chained = record {
  below = each (λ t. get_or chains t 0 < 2) (omega arith) (omega arith) (omega arith) (omega arith);
  apart = four_apart;
  begins = four-begins;
  follows = four_follows;
}

-- the links 0-1, 0-2, 1-2 and 3-2, the later of two against each
abbrev Apart : ℕ → ℕ → Type 0
Apart i j = i < j → (get_or four i no_link).from ≡ (get_or four j no_link).from → (get_or four i no_link).to ≡ (get_or four j no_link).to → ⊥

four_different : Different four
four_different i j l h =
    each (λ i. Apart i j)
    (each (Apart 0) (λ l e f. omega arith) (λ l e f. omega arith) (λ l e f. omega arith) (λ l e f. omega arith) j h)
    (each (Apart 1) (λ l e f. omega arith) (λ l e f. omega arith) (λ l e f. omega arith) (λ l e f. omega arith) j h)
    (each (Apart 2) (λ l e f. omega arith) (λ l e f. omega arith) (λ l e f. omega arith) (λ l e f. omega arith) j h)
    (each (Apart 3) (λ l e f. omega arith) (λ l e f. omega arith) (λ l e f. omega arith) (λ l e f. omega arith) j h)
    i (omega arith) l

pub four_laid_out : FourLaidOut
four_laid_out = (four-ranked, four_chained, four_different)
