use Rattle.walk.proofs.Sweeping.{Turn}
use Rattle.walk.proofs.search.sweep.Given as goal

abbrev pub invariant-loop-link : goal.invariant-loop-link
invariant-loop-link l = Turn l.links l.initial.marks l.sought l.link-index l.marks l.progress
