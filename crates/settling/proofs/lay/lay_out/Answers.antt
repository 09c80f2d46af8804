use Rattle.std.proofs.Common.{◌≡◌, ℕ, List, length, sym, subst, arith}
use Rattle.order.specs.Order.{order_of}
use Rattle.order.proofs.Orders.{order_fits}
use Rattle.chains.specs.Ranked.{Ranked}
use Rattle.settling.proofs.Ranking.{whole_ranked, leaves_more}
use Rattle.settling.proofs.lay.lay_out.Goals as goal

pub returns-then-ranked-types-clause-order_rest : goal.returns-then-ranked-types-clause-order_rest
returns-then-ranked-types-clause-order_rest g c = leaves_more _ _ c.rank_types-ranked.result c.args.graph.now.types (omega arith) c.rank_types-ranked.ensures.order_rest

pub sort_falling-requires-clause-ranks : goal.sort_falling-requires-clause-ranks
sort_falling-requires-clause-ranks g c t h =
    let n = c.args.graph.now.types in
    let links = c.args.graph.now.links.now in
    let whole : length (order_of n links) ≡ n = omega (arith, order_fits n links, c.rank_types-ranked.ensures.count) in
    ((whole_ranked n links c.rank_types-ranked.new.rank c.args.graph.now.within whole c.args.graph.now.few c.rank_types-ranked.ensures.ranks).ranks t h).0

pub invariant_of-view : goal.invariant_of-view
invariant_of-view g c =
    let n = c.args.graph.now.types in
    let links = c.args.graph.now.links.now in
    let rank = c.rank_types-ranked.new.rank in
    let whole : length (order_of n links) ≡ n = omega (arith, order_fits n links, c.rank_types-ranked.ensures.count) in
    record {
      few = c.args.graph.now.few;
      ranked = subst (λ (o : List ℕ). Ranked n links o rank) (sym c.rank_types-ranked.ensures.order) (whole_ranked n links rank c.args.graph.now.within whole c.args.graph.now.few c.rank_types-ranked.ensures.ranks);
      falls = ∣ c.sort_falling.ensures.falling ∣₁;
      rank_room = omega arith;
    }
