-- A whole order ranks each type.
use Rattle.std.proofs.Common.{◌≡◌, ℕ, ◌+◌, ◌-◌, ◌<◌, ◌≤◌, List, length, get_or, take, drop, sym, ap, ◌∙◌, subst, arith}
use Rattle.descent.specs.declared.link.Link.{Link}
use Rattle.descent.specs.Links.{Within}
use Rattle.order.specs.Order.{order_of}
use Rattle.order.specs.Ranks.{rank_of, ranks_of}
use Rattle.order.proofs.Left.{table_rank}
use Rattle.order.proofs.WholeOrders.{place_rank, whole_rank, whole_once, whole_rises}
use Rattle.std.proofs.lemmas.List.{drop-drop}
use Rattle.chains.specs.Ranked.{Ranked}

module _ (n : ℕ) (links : List Link) (rank : List ℕ) (within : Within links n) (whole : length (order_of n links) ≡ n) (small : n ≤ 1024) (ranks : take n rank ≡ ranks_of n links) where
  at : (t : ℕ) → t < n → get_or rank t 0 ≡ rank_of (order_of n links) t
  at t h = table_rank n links rank (omega arith) ranks t h

  pub whole_ranked : Ranked n links (order_of n links) rank
  whole_ranked = record {
    within = within;
    long = whole;
    ranks = λ t h. let r = whole_rank n links whole t h in
        (subst (λ (x : ℕ). x < n) (sym (at t h)) r.0, ap (λ x. get_or (order_of n links) x 0) (at t h) ∙ r.1);
    types = λ r h. let t = (whole_once n links whole).types r (omega arith) in
        (t, at (get_or (order_of n links) r 0) t ∙ place_rank n links r (omega arith));
    rising = λ a b l.
        let below-a : a < n = subst (λ (x : ℕ). x < n) l.2 (within l.0 l.1).0 in
        let below-b : b < n = subst (λ (x : ℕ). x < n) l.3 (within l.0 l.1).1 in
        omega (arith, whole_rises n links whole within a b l, at a below-a, at b below-b);
  }

-- what a shorter front leaves, a longer one leaves
pub leaves_more : {X : Type 0} (xs ys : List X) (r n : ℕ) → r ≤ n → drop r xs ≡ drop r ys → drop n xs ≡ drop n ys
leaves_more xs ys r n h e =
    let z : r + (n - r) ≡ n = omega arith in
    ap (λ k. drop k xs) (sym z) ∙ sym (drop-drop (n - r) r xs) ∙ ap (drop (n - r)) e ∙ drop-drop (n - r) r ys ∙ ap (λ k. drop k ys) z
