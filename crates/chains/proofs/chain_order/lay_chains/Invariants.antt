use Rattle.std.proofs.Common.{◌≡◌, ◌≤◌, length, drop}
use Rattle.chains.specs.ChainOrder.{laid, chain_order}
use Rattle.chains.specs.Places.{places}
use Rattle.chains.proofs.chain_order.lay_chains.Given as goal

abbrev pub invariant-loop-t : goal.invariant-loop-t
invariant-loop-t l =
    (laid l.ranked.types l.ranked.links.now l.ranked.order.now (drop l.t-index l.ranked.order.now) (places l.count l.chain l.position)
    ≡ chain_order l.ranked.types l.ranked.links.now l.ranked.order.now)
    × (l.count ≤ l.t-index) × (length l.chain ≡ length l.initial.chain) × (length l.position ≡ length l.initial.position)
