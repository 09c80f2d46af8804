-- What a layout holds, as the lemmas take it.
use Rattle.std.proofs.Common.{◌≡◌, ℕ, ◌<◌, ◌≤◌, eqb, ◌&&◌, List, length, get_or, Decides, refl, ap, inr, ⊎_elim, arith}
use Rattle.std.proofs.lemmas.Bool.Decides.{Decides-and, Decides-below_or, Decides-eqb}
use Rattle.std.proofs.Math.Bool.{Bool-set}
use Rattle.std.proofs.Math.Bridge.{le_prop}
use Rattle.std.proofs.Math.Logic.{∥∥₁_elim}
use Rattle.std.proofs.Math.Nat.{ℕ_set}
use Rattle.descent.specs.declared.link.Link.{Link}
use Rattle.descent.specs.Computed.{descends}
use Rattle.descent.specs.Links.{Path, Descends}
use Rattle.descent.proofs.Closures.{decides_descends}
use Rattle.chains.specs.Chains.{Chained}
use Rattle.chains.specs.Counting.{some}
use Rattle.chains.specs.Ranked.{Ranked}
use Rattle.rows.specs.declared.layout.Layout.{Layout}
use Rattle.rows.specs.KeptEntries.{Different}
use Rattle.rows.specs.Layouts.{links_in}

-- a layout holds only that there is a proof of this; the types that begin chains and follow others are found again by a search
module _ {n : ℕ} {links : List Link} {chains positions : List ℕ} {count : ℕ} (x : ∥ Chained n links chains positions count ∥₁) where
  first_of : (c : ℕ) → Decides (some n (λ t. eqb (get_or chains t 0) c && eqb (get_or positions t 0) 0)) ((t : ℕ) × (t < n) × ((get_or chains t 0 ≡ c) × (get_or positions t 0 ≡ 0)))
  first_of c =
      Decides-below_or _ (λ t. (get_or chains t 0 ≡ c) × (get_or positions t 0 ≡ 0)) (λ m. some m (λ t. eqb (get_or chains t 0) c && eqb (get_or positions t 0) 0))
      (λ t. Decides-and _ _ (Decides-eqb (get_or chains t 0) c) (Decides-eqb (get_or positions t 0) 0)) refl (λ _. refl) n

  abbrev Before : ℕ → ℕ → ℕ → Type 0
  Before t p u = (get_or chains u 0 ≡ get_or chains t 0) × ((get_or positions u 0 ≡ p) × Descends links u t)

  before : (t p : ℕ) → Decides (some n (λ u. eqb (get_or chains u 0) (get_or chains t 0) && (eqb (get_or positions u 0) p && descends links u t))) ((u : ℕ) × (u < n) × Before t p u)
  before t p =
      Decides-below_or _ (Before t p) (λ m. some m (λ u. eqb (get_or chains u 0) (get_or chains t 0) && (eqb (get_or positions u 0) p && descends links u t)))
      (λ u. Decides-and _ _ (Decides-eqb (get_or chains u 0) (get_or chains t 0)) (Decides-and _ _ (Decides-eqb (get_or positions u 0) p) (decides_descends links u t))) refl (λ _. refl) n

  pub known_chained : Chained n links chains positions count
  known_chained = record {
    below = λ t h. ∥∥₁_elim x le_prop (λ c. c.below t h);
    apart = λ t u h k same e. ∥∥₁_elim x (ℕ_set _ _) (λ c. c.apart t u h k same e);
    begins = λ c h.
        let w = (first_of c).0 (∥∥₁_elim x (Bool-set _ _) (λ y. let b = y.begins c h in (first_of c).1 (b.0, b.1, (b.2, b.3)))) in
        (w.0, w.1, w.2.0, w.2.1);
    follows = λ t p h e.
        let w = (before t p).0 (∥∥₁_elim x (Bool-set _ _) (λ y. let b = y.follows t p h e in (before t p).1 (b.0, b.1, (b.2, (b.3, inr b.4))))) in
        let path : Path links w.0 t = ⊎_elim (λ (same : w.0 ≡ t). let z = ap (λ u. get_or positions u 0) same in let none : ⊥ = omega (arith, w.2.1.0) in absurd none) (λ q. q) w.2.1.1 in
        (w.0, w.1, w.2.0, w.2.1.0, path);
  }

-- the types are ranked and laid out in chains, fewer than 65,536; no two links are the same, and there are at most 65,535; each table has an entry for each type
pub record Laid (layout : Layout) : Type 0 where
  pub ranked : Ranked layout.types (links_in layout) layout.order.now layout.rank.now
  pub chained : Chained layout.types (links_in layout) layout.chain.now layout.position.now layout.chains
  pub different : Different (links_in layout)
  pub small : layout.types ≤ 65535
  pub few : length (links_in layout) ≤ 65535
  pub ranks : layout.types ≤ length layout.rank.now
  pub places : layout.types ≤ length layout.chain.now
  pub positions : layout.types ≤ length layout.position.now

pub laid_out : (layout : Layout) → Laid layout
laid_out layout = record {
  ranked = layout.ranked;
  chained = known_chained layout.chained;
  different = layout.different;
  small = layout.small;
  few = layout.few;
  ranks = layout.ranks;
  places = layout.places;
  positions = layout.positions;
}
