use Rattle.printing_meaning.proofs.Marking.{marked-printable}
use Rattle.printing_meaning.proofs.marked_links_are_printable.Goals as goal

pub returns : goal.returns
returns c = marked-printable
