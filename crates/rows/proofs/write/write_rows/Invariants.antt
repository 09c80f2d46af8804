use Rattle.std.proofs.Common.{◌≡◌, length, take, drop}
use Rattle.std.specs.Iterator.Adapters.{rev_source}
use Rattle.rows.proofs.Passing.{Passed}
use Rattle.rows.proofs.write.write_rows.Given as goal

abbrev pub invariant-loop-t : goal.invariant-loop-t
invariant-loop-t l =
    let left = (rev_source l.t-iterator).rest.now in
    (goal.iterator-loop-t).can_next l.t-iterator
    × (goal.iterator-loop-t).is_finite l.t-iterator
    × Passed l.layout (length left) l.initial.kept l.kept l.initial.index l.index
    × (left ≡ take (length left) l.layout.order.now)
    × (drop l.layout.types l.slots ≡ drop l.layout.types l.initial.slots)
