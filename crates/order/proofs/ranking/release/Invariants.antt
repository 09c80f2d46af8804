use Rattle.std.proofs.Common.{◌≡◌, ℕ, ◌+◌, ◌<◌, length, get_or, take}
use Rattle.order.specs.Waiting.{links_between}
use Rattle.order.proofs.ranking.release.Given as goal

abbrev pub invariant-loop-link : goal.invariant-loop-link
invariant-loop-link l = (u : ℕ) → u < length l.waiting → get_or l.waiting u 0 + links_between (take l.link-index l.links) l.t u ≡ get_or l.initial.waiting u 0
