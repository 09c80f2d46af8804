use Rattle.std.proofs.Common.{◌≡◌, length}
use Rattle.chains.specs.Places.{places}
use Rattle.chains.proofs.JoiningTables.{Turning}
use Rattle.chains.proofs.joining.take_turns.Given as goal

abbrev pub invariant-loop-c : goal.invariant-loop-c
invariant-loop-c l =
    Turning l.ranked.types l.ranked.links.now (places l.count l.initial.chain l.initial.position) l.count l.chain l.position l.first l.last l.c
    × (length l.last ≡ length l.initial.last) × (length l.marks ≡ length l.initial.marks)
    × (length l.chain ≡ length l.initial.chain) × (length l.position ≡ length l.initial.position)
