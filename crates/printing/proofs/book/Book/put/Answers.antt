use Rattle.std.proofs.Common.{[], ◌++◌, sym, append-nil}
use Rattle.printing.specs.Books.{names_of, links_of}
use Rattle.printing.specs.Printed.{name_lines, type_lines, printed}
use Rattle.printing.proofs.Putting.{goes_start, goes_as, goes_on, goes_end}
use Rattle.printing.proofs.book.Book.put.Goals as goal

pub returns : goal.returns
returns c =
    let names = names_of c.args.self.now in
    let links = links_of c.args.self.now in
    let lines = type_lines links names 0 names in
    let named = goes_on (name_lines names) lines _ (goes_start (printed names links) c.args.out.now) c.put_names.ensures in
    goes_end (goes_on lines [] _ (goes_as (lines ++ []) (sym (append-nil lines)) named) c.put_types.ensures)
