use Rattle.std.proofs.Common.{◌+◌, ◌++◌, drop, codes, arith}
use Rattle.printing.specs.Books.{names_of}
use Rattle.printing.specs.Printed.{name_lines}
use Rattle.printing.proofs.Putting.{goes_on}
use Rattle.printing.proofs.LinesLeft.{name_next}
use Rattle.printing.proofs.book.Book.put_names.Goals as goal

-- a name is next, and byte 10
pub loop-number-preserved : goal.loop-number-preserved
loop-number-preserved c =
    let names = names_of c.args.self.now in
    let number = c.loop-number.number in
    let rest = name_lines (drop (number + 1) names) in
    let named = goes_on c.name.result.now (codes "\n" ++ rest) _ (name_next names number c.name.result.now (omega arith) c.name.ensures c.loop-number.invariant) c.put.ensures in
    goes_on (codes "\n") rest _ named c.put-in-loop-number.ensures
