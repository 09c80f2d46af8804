use Rattle.book_meaning.proofs.Tables.{tables_hold}
use Rattle.book_meaning.proofs.the_tables_hold_exactly_what_is_entered.Goals as goal

pub returns : goal.returns
returns c = tables_hold
