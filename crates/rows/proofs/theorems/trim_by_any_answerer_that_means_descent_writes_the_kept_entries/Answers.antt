use Rattle.rows.proofs.Trimming.{trim_keeps}
use Rattle.rows.proofs.theorems.trim_by_any_answerer_that_means_descent_writes_the_kept_entries.Goals as goal

pub returns : goal.returns
returns g c s links free agree = trim_keeps links free (g.P.Answerer.count s) (g.P.Answerer.relates s) agree
