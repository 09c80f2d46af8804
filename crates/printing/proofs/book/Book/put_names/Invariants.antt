use Rattle.std.proofs.Common.{drop}
use Rattle.printing.specs.Books.{names_of}
use Rattle.printing.specs.Printed.{name_lines}
use Rattle.printing.proofs.Putting.{Goes}
use Rattle.printing.proofs.book.Book.put_names.Given as goal

-- the names from this number on are left to put
abbrev pub invariant-loop-number : goal.invariant-loop-number
invariant-loop-number l = Goes (name_lines (drop l.number (names_of l.self))) l.out (name_lines (names_of l.self)) l.initial.out
