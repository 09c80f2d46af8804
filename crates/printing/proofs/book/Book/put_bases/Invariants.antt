use Rattle.std.proofs.Common.{◌-◌, ◌≤◌, length, drop, codes}
use Rattle.printing.specs.Books.{names_of, links_of}
use Rattle.printing.specs.Printed.{base_names, parted}
use Rattle.printing.proofs.Putting.{Goes}
use Rattle.printing.proofs.book.Book.put_bases.Given as goal

-- the bases from `least` on are left to put
abbrev pub invariant-loop-base : goal.invariant-loop-base
invariant-loop-base l =
    Goes (parted l.separator (base_names (links_of l.self) l.of l.least (drop l.least (names_of l.self)))) l.out (parted (codes " < ") (base_names (links_of l.self) l.of 0 (names_of l.self))) l.initial.out
    × (l.least ≤ length (names_of l.self))

abbrev pub decreases-loop-base : goal.decreases-loop-base
decreases-loop-base l = length (names_of l.self) - l.least
