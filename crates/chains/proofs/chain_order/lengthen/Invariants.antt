use Rattle.std.proofs.Common.{◌≡◌, ◌-◌, length}
use Rattle.chains.specs.ChainOrder.{lengthened}
use Rattle.chains.proofs.Lines.{line}
use Rattle.chains.proofs.chain_order.lengthen.Given as goal

abbrev pub invariant-loop-step : goal.invariant-loop-step
invariant-loop-step l =
    (lengthened l.ranked.links.now l.ranked.order.now l.c (line l.last l.step l.chain l.position) (l.ranked.types - l.step)
    ≡ lengthened l.ranked.links.now l.ranked.order.now l.c (line l.t 0 l.initial.chain l.initial.position) l.ranked.types)
    × (length l.chain ≡ length l.initial.chain) × (length l.position ≡ length l.initial.position)
