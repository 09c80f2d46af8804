use Rattle.printing_meaning.proofs.Lawful.{lines_hold_lawful_names}
use Rattle.printing_meaning.proofs.names_on_lawful_lines_are_lawful.Goals as goal

pub returns : goal.returns
returns c = lines_hold_lawful_names
