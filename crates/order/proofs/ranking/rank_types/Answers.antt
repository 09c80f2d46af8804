use Rattle.std.proofs.Common.{refl, arith}
use Rattle.std.proofs.lemmas.Grind.{common_steps}
use Rattle.std.proofs.lemmas.List.{length-take-le}
use Rattle.order.proofs.Rankings.{ranking_none, next_type_lem, next_waits, next_ranking, end_order, end_count, end_ranks, whole_order, rest_more}
use Rattle.order.proofs.ranking.rank_types.Goals as goal

pub loop-next-init : goal.loop-next-init
loop-next-init c = record {
  ranking = ranking_none (omega arith) (omega arith) (omega (arith, c.fill.ensures.len, length-take-le c.args.types c.args.rank.now c.requires.rank_room)) (λ u h. grind (arith, common_steps)) (λ u h. c.count_links.ensures u (omega (arith, c.fill-2.ensures.len, length-take-le c.args.types c.args.waiting.now c.requires.waiting_room)));
  order_rest = refl;
}

pub returns-in_default-clause-count : goal.returns-in_default-clause-count
returns-in_default-clause-count c = end_count c.loop-next.invariant.ranking c.in_default.ensures

pub returns-in_default-clause-order : goal.returns-in_default-clause-order
returns-in_default-clause-order c = end_order c.loop-next.invariant.ranking c.in_default.ensures

pub returns-in_default-clause-ranks : goal.returns-in_default-clause-ranks
returns-in_default-clause-ranks c = end_ranks c.loop-next.invariant.ranking (end_order c.loop-next.invariant.ranking c.in_default.ensures) _

pub bounds-rank-t : goal.bounds-rank-t
bounds-rank-t c = omega (arith, next_type_lem c.loop-next.invariant.ranking c.in-Some.ensures, c.loop-next.invariant.ranking.tables.room)

pub release-requires-clause-counted : goal.release-requires-clause-counted
release-requires-clause-counted c u h = next_waits c.loop-next.invariant.ranking c.in-Some.ensures u (omega (arith, c.fill-2.ensures.len, length-take-le c.args.types c.args.waiting.now c.requires.waiting_room))

pub loop-next-preserved : goal.loop-next-preserved
loop-next-preserved c = record {
  ranking = next_ranking c.loop-next.invariant.ranking c.in-Some.ensures (λ u h. c.release.ensures u (omega (arith, c.fill-2.ensures.len, length-take-le c.args.types c.args.waiting.now c.requires.waiting_room)));
  order_rest = rest_more c.loop-next.order c.args.order.now c.loop-next.next c.in-Some.t c.loop-next.invariant.order_rest;
}

pub returns-clause-ranks : goal.returns-clause-ranks
returns-clause-ranks c = end_ranks c.loop-next.invariant.ranking (whole_order c.loop-next.invariant.ranking (omega arith)) _
