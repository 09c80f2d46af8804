use Rattle.std.proofs.Common.{arith}
use Rattle.std.proofs.lemmas.List.{length-take-le}
use Rattle.chains.specs.Ends.{has_last}
use Rattle.chains.specs.Counts.{passing_le}
use Rattle.chains.proofs.joining.number_standing.Goals as goal

pub overflow_add-standing : goal.overflow_add-standing
overflow_add-standing c =
    omega (arith, c.loop-d.invariant.1, passing_le c.loop-d.d (has_last c.args.last.now), length-take-le c.args.count c.args.last.now c.requires.last_room)
