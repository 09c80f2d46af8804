use Rattle.std.proofs.Common.{◌+◌, [], get_or, drop, arith}
use Rattle.printing.specs.Books.{names_of, links_of}
use Rattle.printing.specs.Printed.{base_names, type_line, type_lines}
use Rattle.printing.proofs.Putting.{goes_on}
use Rattle.printing.proofs.LinesLeft.{line_next}
use Rattle.printing.proofs.book.Book.put_types.Goals as goal

pub loop-number-preserved : goal.loop-number-preserved
loop-number-preserved c =
    let names = names_of c.args.self.now in
    let links = links_of c.args.self.now in
    let i = c.loop-number.number in
    goes_on (type_line (get_or names i []) (base_names links i 0 names)) (type_lines links names (i + 1) (drop (i + 1) names)) _ (line_next names links i (omega arith) c.loop-number.invariant) c.put_type.ensures
