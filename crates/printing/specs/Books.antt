-- What a book that is printed holds.
use Rattle.std.specs.Prelude.{ℕ, List}
use Rattle.descent.specs.declared.link.Link.{Link}
use Rattle.names.specs.Held.{names_in}
use Rattle.rows.specs.KeptEntries.{marked}
use Rattle.printing.specs.declared.book.Book.{Book}

-- its names, in the order of their numbers
abbrev pub names_of : Book → List (List ℕ)
names_of b = names_in b.names.now

-- its kept links
abbrev pub links_of : Book → List Link
links_of b = marked b.kept.now b.links.now
