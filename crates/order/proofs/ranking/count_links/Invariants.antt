use Rattle.std.proofs.Common.{◌≡◌, ℕ, ◌<◌, [], length, get_or, take}
use Rattle.order.specs.Waiting.{waiting_of}
use Rattle.order.proofs.ranking.count_links.Given as goal

abbrev pub invariant-loop-link : goal.invariant-loop-link
invariant-loop-link l = (u : ℕ) → u < length l.waiting → get_or l.waiting u 0 ≡ waiting_of (take l.link-index l.links) [] u
