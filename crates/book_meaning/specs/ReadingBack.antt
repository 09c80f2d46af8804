-- Whatever history a book has had, its printed text reads back.
use Rattle.declarations.specs.declared.book.Book.{Book}
use Rattle.declarations.specs.Histories.{History}
use Rattle.declarations.specs.Books.{state_of}
use Rattle.declarations.specs.Telling.{Tells}
use Rattle.rows.specs.KeptEntries.{kept_links}
use Rattle.printing_meaning.specs.RoundTrip.{ReadsBack}

-- a book's names and kept links, printed and loaded into a new book of the same sizes
abbrev pub BookReadsBack : Book → Type 0
BookReadsBack b = ReadsBack (state_of b).contents.entries.names (kept_links (state_of b).contents.entries.links) (state_of b).contents.room

abbrev pub EveryBookReadsBack : Type 0
EveryBookReadsBack = (h : History) (b : Book) → Tells h b → BookReadsBack b
