use Rattle.names.proofs.Numbers.{name_from_number, number_from_name}
use Rattle.names.proofs.facts.numbers_are_found_exactly_for_their_names.Goals as goal

pub returns : goal.returns
returns c names bytes number different = (name_from_number names bytes number, number_from_name names bytes number different)
