use Rattle.descent.proofs.Keeping.{contains_kept}
use Rattle.descent.proofs.facts.every_set_with_that_descent_contains_the_kept_links.Goals as goal

pub returns : goal.returns
returns c links others free same = contains_kept links others same free
