use Rattle.std.proofs.Common.{◌≡◌, length, get_or}
use Rattle.walk.specs.Sweeps.{Marked, Reached, unmarked}
use Rattle.walk.proofs.search.search.Given as goal

abbrev pub invariant-loop : goal.invariant-loop
invariant-loop l =
    (length l.guard.0.now ≡ length l.initial.guard.0.now)
    × Reached l.links l.a l.guard.0.now
    × Marked l.guard.0.now l.a
    × (get_or l.guard.0.now l.b 0 ≡ 0)

abbrev pub decreases-loop : goal.decreases-loop
decreases-loop l = unmarked l.guard.0.now
