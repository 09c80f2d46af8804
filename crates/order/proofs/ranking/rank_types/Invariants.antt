use Rattle.std.proofs.Common.{◌≡◌, drop}
use Rattle.order.proofs.Rankings.{Ranking}
use Rattle.order.proofs.ranking.rank_types.Given as goal

abbrev pub invariant-loop-next : goal.invariant-loop-next
invariant-loop-next l = record {
  ranking : Ranking l.types l.links l.order l.rank l.waiting l.next;
  order_rest : drop l.next l.order ≡ drop l.next l.initial.order;
}
