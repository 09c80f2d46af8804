use Rattle.std.proofs.Common.{◌≡◌, ℕ, ◌+◌, ◌<◌, ◌≤◌, cond, eqb, get_or}
use Rattle.chains.proofs.joining.put_behind.Given as goal

abbrev pub invariant-loop-t : goal.invariant-loop-t
invariant-loop-t l =
    ((k : ℕ) → k < l.t → get_or l.chain k 0 ≡ cond (eqb (get_or l.initial.chain k 0) l.c) l.host (get_or l.initial.chain k 0))
    × ((k : ℕ) → k < l.t → get_or l.position k 0 ≡ cond (eqb (get_or l.initial.chain k 0) l.c) (l.shift + get_or l.initial.position k 0) (get_or l.initial.position k 0))
    × ((k : ℕ) → l.t ≤ k → get_or l.chain k 0 ≡ get_or l.initial.chain k 0)
    × ((k : ℕ) → l.t ≤ k → get_or l.position k 0 ≡ get_or l.initial.position k 0)
