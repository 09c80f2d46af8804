use Rattle.descent.proofs.Descents.{path_join, path_split, path_split_last}
use Rattle.descent.proofs.facts.a_path_splits_and_joins.Goals as goal

pub returns : goal.returns
returns c links = ((λ a b d p q. path_join p q), (λ a d p. path_split p), (λ a d p. path_split_last p))
