use Rattle.std.proofs.Common.{◌≡◌, ◌+◌, ◌*◌, ◌≤◌, min, length, get_or}
use Rattle.std.specs.Iterator.Adapters.{zip_first, zip_second}
use Rattle.rows.proofs.Lowering.{Written}
use Rattle.rows.proofs.row.merge_row.Given as goal

abbrev pub invariant-loop-to : goal.invariant-loop-to
invariant-loop-to l =
    let to = l.t * l.layout.chains in
    let from = l.base * l.layout.chains in
    (goal.iterator-loop-to).can_next l.to-iterator
    × (goal.iterator-loop-to).is_finite l.to-iterator
    × Written l.initial.index l.index to (λ c. min (get_or l.initial.index (to + c) 0) (get_or l.initial.index (from + c) 0)) (length l.yielded)
    × ((zip_first l.to-iterator).start ≡ to + length l.yielded) × ((zip_first l.to-iterator).end ≡ to + l.layout.chains)
    × ((zip_second l.to-iterator).start ≡ from + length l.yielded) × ((zip_second l.to-iterator).end ≡ from + l.layout.chains)
    × (length l.yielded ≤ l.layout.chains)
