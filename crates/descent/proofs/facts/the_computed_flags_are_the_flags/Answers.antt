use Rattle.descent.proofs.Computing.{flags_computed}
use Rattle.descent.proofs.facts.the_computed_flags_are_the_flags.Goals as goal

pub returns : goal.returns
returns g c s holds computes links within = flags_computed (g.P.Answerer.count s) holds (g.P.Answerer.relates s) computes links within
