-- A gate of ranks that rise along each link lets all descent through.
use Rattle.std.proofs.Common.{◌≡◌, ℕ, ◌<◌, ◌≤◌, true, List, length, get_or, is_some, Some, None, Option, sym, ap, ◌∙◌, inl, inr, arith}
use mathlib.Core.Logic.{∥∥₁_elim}
use native.Mathlib.Nat.{ℕ_set}
use Rattle.std.proofs.lemmas.List.{get_or-take}
use Rattle.std.proofs.lemmas.Bool.{false≢true}
use Rattle.descent.specs.declared.link.Link.{Link}
use Rattle.descent.specs.Answers.{Agree}
use Rattle.descent.specs.Computed.{descends, nearest}
use Rattle.descent.specs.Layers.{Gated}
use Rattle.descent.specs.Links.{Descends, Within}
use Rattle.descent.specs.Nearests.{Nearest}
use Rattle.order.specs.Order.{order_of}
use Rattle.order.specs.Ranks.{rank_of}
use Rattle.order.proofs.WholeOrders.{path_rises, whole_rises, whole_rank, whole_once}
use Rattle.hierarchy.specs.Answering.{Answering}
use Rattle.nearest.proofs.Nearests.{nearest_by, nearest_one, nearest_descent}

-- the front of an order table holds the whole order
pub record Ordered (n : ℕ) (links : List Link) (table : List ℕ) : Type 0 where
  pub whole : length (order_of n links) ≡ n
  pub at : (r : ℕ) → r < n → get_or table r 0 ≡ get_or (order_of n links) r 0

pub ordered : (settled : Option ℕ) (n : ℕ) (links : List Link) (order chain position kept index : List ℕ) → is_some settled ≡ true
    → ∥ Answering settled n links order chain position kept index ∥₁ → Ordered n links order
ordered (Some count) n links order chain position kept index s x = record {
  whole = ∥∥₁_elim x (ℕ_set _ _) (λ y. y.0);
  at = λ r h. ∥∥₁_elim x (ℕ_set _ _) (λ y. sym (get_or-take n order r 0 h) ∙ ap (λ (l : List ℕ). get_or l r 0) y.1);
}
ordered None n links order chain position kept index s x = absurd (false≢true s)

module _ (n : ℕ) (links : List Link) (table : List ℕ) (o : Ordered n links table) where
  pub order_below : (r : ℕ) → r < n → get_or table r 0 < n
  order_below r h = omega (arith, o.at r h, (whole_once n links o.whole).types r (omega (arith, o.whole)))

  pub order_once : (r s : ℕ) → r < s → s < n → get_or table r 0 ≡ get_or table s 0 → ⊥
  order_once r s lt h e =
      let k : r < n = omega arith in
      let same = (whole_once n links o.whole).only r s (omega (arith, o.whole)) (omega (arith, o.whole)) (sym (o.at r k) ∙ e ∙ o.at s h) in
      omega (arith, same)

  module _ (levels : List ℕ) (within : Within links n) (ranks : (r : ℕ) → r < n → get_or levels (get_or table r 0) 0 ≡ r) where
    level_is : (t : ℕ) → t < n → get_or levels t 0 ≡ rank_of (order_of n links) t
    level_is t h =
        let k = whole_rank n links o.whole t h in
        let place : get_or table (rank_of (order_of n links) t) 0 ≡ t = o.at (rank_of (order_of n links) t) k.0 ∙ k.1 in
        ap (λ x. get_or levels x 0) (sym place) ∙ ranks (rank_of (order_of n links) t) k.0

    lets-through : (a b : ℕ) → a < n → b < n → Descends links a b → get_or levels a 0 ≤ get_or levels b 0
    lets-through a b h k (inl e) = omega (arith, ap (λ x. get_or levels x 0) e)
    lets-through a b h k (inr p) = omega (arith, level_is a h, level_is b k, path_rises links (rank_of (order_of n links)) (whole_rises n links o.whole within) p)

    gated_agrees : Agree n (Gated levels (Descends links)) (Descends links)
    gated_agrees a b h k = ((λ p. p.0), (λ p. (p, lets-through a b h k p)))

    -- what is found through the gate is the nearest common base by descent
    pub nearest_through : (a b : ℕ) → a < n → b < n → (found : Option ℕ) → Nearest n (Gated levels (Descends links)) a b found → found ≡ nearest n (descends links) a b
    nearest_through a b first second found h =
        nearest_one n (Descends links) a b found (nearest n (descends links) a b)
        (nearest_by n (Gated levels (Descends links)) (Descends links) gated_agrees a b first second found h)
        (nearest_descent n links a b first second)
