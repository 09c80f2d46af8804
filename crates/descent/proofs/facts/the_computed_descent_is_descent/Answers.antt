use Rattle.descent.proofs.Closures.{decides_descends}
use Rattle.descent.proofs.facts.the_computed_descent_is_descent.Goals as goal

pub returns : goal.returns
returns c = decides_descends
