-- Where types are left unranked, each of them has an unranked subtype.
use Rattle.std.proofs.Common.{◌≡◌, ℕ, ◌-◌, ◌<◌, ◌≤◌, true, false, not, List, length, get_or, take, Some, None, sym, refl, ap, ◌∙◌, subst, ⊎_elim, arith}
use Rattle.std.proofs.lemmas.List.{get_or-take}
use Rattle.std.proofs.lemmas.List.FromFn.{get_or-map-range_with_len}
use Rattle.std.proofs.lemmas.Bool.{and_cases, both_ways, not-true, not-false, not_from_false}
use Rattle.descent.specs.declared.link.Link.{Link}
use Rattle.descent.specs.Links.{Linked, Within}
use Rattle.order.specs.Order.{ranked, subtypes_ranked, ready, lowest, order_of}
use Rattle.order.specs.Ranks.{rank_of, ranks_of}
use Rattle.order.specs.Down.{unranked, down, walked, Round}
use Rattle.descent.specs.Loops.{Loop}
use Rattle.std.specs.Option.{IsSome}
use Rattle.order.proofs.Lowest.{lowest_none, lowest_some, option_cases}
use Rattle.order.proofs.Rounds.{down_round, walked_stays, walked_linked, round_loop}
use Rattle.order.proofs.Tallies.{tally_gap}
use Rattle.order.proofs.Places.{rank_tells}
use Rattle.order.proofs.Orders.{order_sound, order_ends, order_fits, subtypes_not}

module _ (n : ℕ) (links : List Link) (short : length (order_of n links) < n) where
  stuck : lowest (ready links (order_of n links)) 0 n ≡ None
  stuck = ⊎_elim (λ e. e) (λ e. let z : ⊥ = omega arith in absurd z) (order_ends n links)

  pub left_has : (t : ℕ) → t < n → ranked (order_of n links) t ≡ false → (a : ℕ) × Linked links a t × (ranked (order_of n links) a ≡ false)
  left_has t h e =
      ⊎_elim
      (λ f. absurd (both_ways (ranked (order_of n links) t) e (not-false _ f)))
      (λ f. subtypes_not links (order_of n links) t f)
      (and_cases (not (ranked (order_of n links) t)) (subtypes_ranked links (order_of n links) t)
      (lowest_none (ready links (order_of n links)) 0 n t stuck (omega arith) (omega arith)))

  pub left_some : (t : ℕ) × (t < n) × (ranked (order_of n links) t ≡ false)
  left_some = tally_gap n (ranked (order_of n links)) (omega (arith, (order_sound n links).counted))

-- a rank table that holds the ranks tells the unranked types
module _ (n : ℕ) (links : List Link) (rank : List ℕ) (small : n ≤ 65535) (ranks : take n rank ≡ ranks_of n links) where
  pub table_rank : (t : ℕ) → t < n → get_or rank t 0 ≡ rank_of (order_of n links) t
  table_rank t h =
      sym (get_or-take n rank t 0 h) ∙ ap (λ (l : List ℕ). get_or l t 0) ranks
      ∙ get_or-map-range_with_len (rank_of (order_of n links)) 0 n t t 0 h (omega arith)

  pub table_unranked : (t : ℕ) → t < n → unranked rank t ≡ not (ranked (order_of n links) t)
  table_unranked t h = rank_tells (order_of n links) t (get_or rank t 0) (omega (arith, order_fits n links)) (table_rank t h)

  module _ (within : Within links n) (short : length (order_of n links) < n) where
    pub table_has : (t : ℕ) → t < n → unranked rank t ≡ true → (a : ℕ) × Linked links a t × (unranked rank a ≡ true)
    table_has t h e =
        let r = left_has n links short t h (not-true _ (sym (table_unranked t h) ∙ e)) in
        let below : r.0 < n = subst (λ (x : ℕ). x < n) r.1.2 (within r.1.0 r.1.1).0 in
        (r.0, r.1, table_unranked r.0 below ∙ not_from_false _ r.2)

    pub table_some : IsSome (lowest (unranked rank) 0 n)
    table_some =
        ⊎_elim
        (λ (e : lowest (unranked rank) 0 n ≡ None).
        let t = left_some n links short in
        absurd (both_ways (unranked rank t.0) (lowest_none (unranked rank) 0 n t.0 e (omega arith) (omega (arith, t.1)))
        (table_unranked t.0 t.1 ∙ not_from_false _ t.2)))
        (λ (f : (t : ℕ) × (lowest (unranked rank) 0 n ≡ Some t)). subst IsSome (sym f.1) refl)
        (option_cases (lowest (unranked rank) 0 n))

    -- n steps down from an unranked type lead to a round, and its types, written from its end, are a loop
    module _ (first start : ℕ) (found : Some first ≡ lowest (unranked rank) 0 n) (steps : start ≡ walked (down links (unranked rank)) first n) where
      start_at : (first < n) × (unranked rank first ≡ true)
      start_at = let r = lowest_some (unranked rank) 0 n first (sym found) in (omega (arith, r.1), r.0)

      pub table_round : (p : ℕ) × (0 < p) × (p ≤ n) × (walked (down links (unranked rank)) start p ≡ start)
      table_round =
          let r = down_round n links within (unranked rank) table_has first start_at.0 start_at.1 in
          (r.0, r.1, r.2, ap (λ s. walked (down links (unranked rank)) s r.0) steps ∙ r.3 ∙ sym steps)

      pub table_loop : (types : List ℕ) (k : ℕ) → Round (down links (unranked rank)) start k → length types ≡ k
          → ((i : ℕ) → i < k → get_or types i 0 ≡ walked (down links (unranked rank)) start (k - 1 - i)) → Loop links types
      table_loop types k r long at =
          let s = walked_stays n links within (unranked rank) table_has first start_at.0 start_at.1 n in
          let below : start < n = subst (λ (x : ℕ). x < n) (sym steps) s.0 in
          let free : unranked rank start ≡ true = ap (unranked rank) steps ∙ s.1 in
          round_loop links (down links (unranked rank)) start k types r
          (walked_linked n links within (unranked rank) table_has start below free) long at
