use Rattle.std.proofs.Common.{drop}
use Rattle.printing.specs.Books.{names_of, links_of}
use Rattle.printing.specs.Printed.{type_lines}
use Rattle.printing.proofs.Putting.{Goes}
use Rattle.printing.proofs.book.Book.put_types.Given as goal

-- the lines of the types from this number on are left to put
abbrev pub invariant-loop-number : goal.invariant-loop-number
invariant-loop-number l =
    Goes (type_lines (links_of l.self) (names_of l.self) l.number (drop l.number (names_of l.self))) l.out (type_lines (links_of l.self) (names_of l.self) 0 (names_of l.self)) l.initial.out
