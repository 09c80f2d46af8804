use Rattle.names.proofs.Undoing.{undone}
use Rattle.names.proofs.facts.taking_back_undoes_entering.Goals as goal

pub returns : goal.returns
returns c size places names more fits = undone size places names more fits
