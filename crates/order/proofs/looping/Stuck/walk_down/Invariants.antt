use Rattle.std.proofs.Common.{◌≡◌}
use Rattle.order.specs.Down.{unranked, down, walked}
use Rattle.order.proofs.looping.Stuck.walk_down.Given as goal

abbrev pub invariant-loop : goal.invariant-loop
invariant-loop l = l.at ≡ walked (down l.self.links.now (unranked l.self.rank.now)) l.t l.counter
