use Rattle.descent.proofs.Descents.{descends_refl, descends_trans}
use Rattle.descent.proofs.facts.descent_is_reflexive_and_transitive.Goals as goal

pub returns : goal.returns
returns c links = (descends_refl links, descends_trans links)
