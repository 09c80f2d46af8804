use Rattle.std.proofs.Common.{refl, arith}
use Rattle.order.proofs.Counts.{between_waits}
use Rattle.order.proofs.ranking.release.Goals as goal

pub overflow_sub-waiting : goal.overflow_sub-waiting
overflow_sub-waiting c =
    let below = (c.requires.within c.loop-link.link-index c.loop-link-test.true).1 in
    between_waits c.args.links.now c.loop-link.link-index c.loop-link-test.true c.args.t c.loop-link.waiting _ _ c.if-link-t.true refl (c.loop-link.invariant _ (omega arith)) (c.requires.counted _ below)
