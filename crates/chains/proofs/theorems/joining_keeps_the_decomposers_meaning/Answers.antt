use Rattle.chains.specs.Renumbering.{joining_decomposes}
use Rattle.chains.proofs.theorems.joining_keeps_the_decomposers_meaning.Goals as goal

pub returns : goal.returns
returns g c = λ d. joining_decomposes _ (g.met.D.Decomposer.meaning d)
