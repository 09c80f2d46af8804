use Rattle.std.proofs.Common.{◌≡◌, ℕ, ◌<◌, ◌≤◌, length, get_or}
use Rattle.chains.proofs.joining.find_lasts.Given as goal

abbrev pub invariant-loop-t : goal.invariant-loop-t
invariant-loop-t l =
    ((c : ℕ) → c < l.count → (get_or l.last c 0 < length l.chain) × (get_or l.chain (get_or l.last c 0) 0 ≡ c))
    × ((k : ℕ) → k < l.t → get_or l.position k 0 ≤ get_or l.position (get_or l.last (get_or l.chain k 0) 0) 0)
