use Rattle.rows.proofs.Reductions.{reduction}
use Rattle.rows.proofs.theorems.kept_entries_are_the_transitive_reduction.Goals as goal

pub returns : goal.returns
returns c = reduction
