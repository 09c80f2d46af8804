use Rattle.chains.proofs.FreeBases.{Lowest}
use Rattle.chains.proofs.chain_order.next_base.Given as goal

abbrev pub invariant-loop-link : goal.invariant-loop-link
invariant-loop-link l = Lowest l.ranked.types l.ranked.links.now l.ranked.order.now l.ranked.rank.now l.chain l.t l.link-index l.lowest
