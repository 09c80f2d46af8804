use Rattle.std.proofs.Common.{◌≡◌, ℕ, ◌<◌, get_or}
use Rattle.nearest.proofs.fill_ranks.Given as goal

-- the types of lower ranks have theirs
abbrev pub invariant-loop-rank : goal.invariant-loop-rank
invariant-loop-rank l = (r : ℕ) → r < l.rank → get_or l.ranks (get_or l.order r 0) 0 ≡ r
