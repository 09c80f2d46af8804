use Rattle.rows.proofs.Fewness.{kept_few}
use Rattle.rows.proofs.theorems.kept_links_are_at_most_chains_times_types.Goals as goal

pub returns : goal.returns
returns c = kept_few
