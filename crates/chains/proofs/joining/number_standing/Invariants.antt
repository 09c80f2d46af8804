use Rattle.std.proofs.Common.{◌≡◌, ℕ, ◌<◌, get_or}
use Rattle.chains.specs.Counting.{passing}
use Rattle.chains.specs.Ends.{has_last}
use Rattle.chains.proofs.joining.number_standing.Given as goal

abbrev pub invariant-loop-d : goal.invariant-loop-d
invariant-loop-d l =
    ((k : ℕ) → k < l.d → get_or l.number k 0 ≡ passing k (has_last l.last))
    × (l.standing ≡ passing l.d (has_last l.last))
