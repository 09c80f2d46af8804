use Rattle.grammar_meaning.proofs.Accepted.{accepts_lawful_lines}
use Rattle.grammar_meaning.proofs.lines_are_accepted_exactly_as_grammar_and_limits_say.Goals as goal

pub returns : goal.returns
returns c = accepts_lawful_lines
