use Rattle.descent.proofs.Keeping.{kept_same_descent_free}
use Rattle.descent.proofs.facts.kept_links_have_the_same_descent.Goals as goal

pub returns : goal.returns
returns c = kept_same_descent_free
