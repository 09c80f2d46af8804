use Rattle.chains.proofs.Marking.{Marking}
use Rattle.chains.proofs.joining.mark_paths.Given as goal

abbrev pub invariant-loop-k : goal.invariant-loop-k
invariant-loop-k l = Marking l.ranked.types l.ranked.links.now l.ranked.falling.now l.marks l.t l.k-index
