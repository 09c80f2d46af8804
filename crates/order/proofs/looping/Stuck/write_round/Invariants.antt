use Rattle.std.proofs.Common.{◌≡◌, ℕ, ◌+◌, ◌<◌, get_or, drop}
use Rattle.order.specs.Down.{unranked, down, walked}
use Rattle.order.proofs.looping.Stuck.write_round.Given as goal

abbrev pub invariant-loop-i : goal.invariant-loop-i
invariant-loop-i l =
    let step = down l.self.links.now (unranked l.self.rank.now) in
    record {
      here : l.at ≡ walked step l.start l.i;
      written : (k : ℕ) → k < l.i → get_or l.table k 0 ≡ walked step l.start k;
      first : (j : ℕ) → 0 < j → j < l.i + 1 → walked step l.start j ≡ l.start → ⊥;
      rest : drop l.i l.table ≡ drop l.i l.initial.table;
    }
