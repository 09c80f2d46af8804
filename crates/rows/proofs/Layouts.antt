-- Types on a chain: each descends from every later one, and a position is at most the rank.
use Rattle.std.proofs.Common.{◌≡◌, ℕ, zero, suc, ◌+◌, ◌-◌, ◌<◌, ◌≤◌, List, get_or, sym, refl, ap, ◌∙◌, inl, inr, ⊎_elim, arith}
use Rattle.std.proofs.lemmas.Bool.{cases_lt}
use Rattle.descent.specs.declared.link.Link.{Link}
use Rattle.descent.specs.Links.{Path, Descends}
use Rattle.descent.proofs.Descents.{descends_trans}
use Rattle.descent.proofs.Ranks.{rising_path}
use Rattle.chains.specs.Chains.{Chained}
use Rattle.chains.specs.Ranked.{Ranked}

module _ {n : ℕ} {links : List Link} {chains positions : List ℕ} {count : ℕ} (chained : Chained n links chains positions count) where
  along : (steps t u : ℕ) → t < n → u < n → get_or chains t 0 ≡ get_or chains u 0 → get_or positions t 0 + steps ≡ get_or positions u 0 → Descends links t u
  along zero t u h k same e = inl (chained.apart t u h k same (omega arith))
  along (suc steps) t u h k same e =
      let before = chained.follows u (get_or positions t 0 + steps) k (omega arith) in
      let x = before.0 in
      descends_trans links t x u (along steps t x h before.1 (same ∙ sym before.2) (sym before.3)) (inr before.4)

  -- a type descends from each type on its chain whose position is not lower
  pub along_chain : (t u : ℕ) → t < n → u < n → get_or chains t 0 ≡ get_or chains u 0 → get_or positions t 0 ≤ get_or positions u 0 → Descends links t u
  along_chain t u h k same le = along (get_or positions u 0 - get_or positions t 0) t u h k same (omega arith)

  module _ {order rank : List ℕ} (ranked : Ranked n links order rank) where
    by_position : (p t : ℕ) → t < n → get_or positions t 0 ≡ p → p ≤ get_or rank t 0
    by_position zero t h e = omega arith
    by_position (suc p) t h e =
        let before = chained.follows t p h (omega arith) in
        omega (arith, by_position p before.0 before.1 before.3, rising_path links (λ x. get_or rank x 0) ranked.rising before.4)

    pub position_below : (t : ℕ) → t < n → get_or positions t 0 < n
    position_below t h = omega (arith, by_position (get_or positions t 0) t h refl, (ranked.ranks t h).0)

    -- of two types on a chain, the one that descends from the other has not the higher position
    pub descent_rises : (t u : ℕ) → t < n → u < n → get_or chains t 0 ≡ get_or chains u 0 → Descends links t u → get_or positions t 0 ≤ get_or positions u 0
    descent_rises t u h k same (inl e) = let z = ap (λ x. get_or positions x 0) e in omega arith
    descent_rises t u h k same (inr p) =
        ⊎_elim
        (λ (le : get_or positions t 0 ≤ get_or positions u 0). le)
        (λ (more : get_or positions u 0 < get_or positions t 0).
        ⊎_elim
        (λ (e : u ≡ t). let z = ap (λ x. get_or positions x 0) e in omega arith)
        (λ (q : Path links u t).
        let up : get_or rank t 0 < get_or rank u 0 = rising_path links (λ x. get_or rank x 0) ranked.rising p in
        let back : get_or rank u 0 < get_or rank t 0 = rising_path links (λ x. get_or rank x 0) ranked.rising q in
        let none : ⊥ = omega arith in absurd none)
        (along_chain u t k h (sym same) (omega arith)))
        (⊎_elim inr inl (cases_lt (get_or positions u 0) (get_or positions t 0)))
