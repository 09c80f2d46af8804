use Rattle.rows.proofs.Answering.{rows_start, rows_lowest, rows_answer}
use Rattle.rows.proofs.theorems.a_row_entry_at_most_the_position_is_exactly_descent.Goals as goal

pub returns : goal.returns
returns c = record { places = rows_start; lowest = rows_lowest; answers = rows_answer }
