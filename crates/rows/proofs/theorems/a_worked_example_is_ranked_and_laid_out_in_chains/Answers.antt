use Rattle.rows.proofs.WorkedLayout.{four_laid_out}
use Rattle.rows.proofs.theorems.a_worked_example_is_ranked_and_laid_out_in_chains.Goals as goal

pub returns : goal.returns
returns c = four_laid_out
