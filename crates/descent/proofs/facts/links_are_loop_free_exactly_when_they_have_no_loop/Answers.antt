use Rattle.std.proofs.Common.{get_or}
use Rattle.descent.proofs.Ranks.{loop_path}
use Rattle.descent.proofs.Rounds.{path_loop}
use Rattle.descent.proofs.facts.links_are_loop_free_exactly_when_they_have_no_loop.Goals as goal

pub returns : goal.returns
returns c links = (
  (λ free types loop. free (get_or types 0 0) (loop_path links types loop)),
  (λ none a p. let found = path_loop links a p in none found.0 found.1),
)
