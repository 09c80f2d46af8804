use Rattle.std.proofs.Common.{◌≡◌, ℕ, ◌<◌, length, get_or}
use Rattle.chains.proofs.joining.find_firsts.Given as goal

abbrev pub invariant-loop-t : goal.invariant-loop-t
invariant-loop-t l = (k : ℕ) → k < length l.yielded → get_or l.position k 0 ≡ 0 → get_or l.first (get_or l.chain k 0) 0 ≡ k
