use Rattle.grammar_meaning.proofs.Refused.{refuses_at_bad_places}
use Rattle.grammar_meaning.proofs.lines_are_refused_exactly_at_their_bad_place.Goals as goal

pub returns : goal.returns
returns c = refuses_at_bad_places
