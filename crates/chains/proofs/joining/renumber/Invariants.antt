use Rattle.std.proofs.Common.{◌≡◌, ℕ, ◌<◌, ◌≤◌, get_or}
use Rattle.chains.proofs.joining.renumber.Given as goal

abbrev pub invariant-loop-c : goal.invariant-loop-c
invariant-loop-c l =
    ((k : ℕ) → k < l.c-index → get_or l.chain k 0 ≡ get_or l.number (get_or l.initial.chain k 0) 0)
    × ((k : ℕ) → l.c-index ≤ k → get_or l.chain k 0 ≡ get_or l.initial.chain k 0)
