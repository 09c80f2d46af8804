use Rattle.book_meaning.proofs.Books.{every_book_reads_back}
use Rattle.book_meaning.proofs.every_book_that_is_printed_reads_back.Goals as goal

pub returns : goal.returns
returns c = every_book_reads_back
