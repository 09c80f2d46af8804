use Rattle.names.proofs.Numbers.{number_kept}
use Rattle.names.proofs.facts.entering_keeps_the_numbers.Goals as goal

pub returns : goal.returns
returns c size places names more bytes number found = number_kept size places names more bytes number found
