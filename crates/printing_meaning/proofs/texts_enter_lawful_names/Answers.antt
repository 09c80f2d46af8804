use Rattle.printing_meaning.proofs.Entered.{texts_enter_lawful_names_lem}
use Rattle.printing_meaning.proofs.texts_enter_lawful_names.Goals as goal

pub returns : goal.returns
returns c = texts_enter_lawful_names_lem
