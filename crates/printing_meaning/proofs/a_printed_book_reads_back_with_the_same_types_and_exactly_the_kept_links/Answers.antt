use Rattle.printing_meaning.proofs.ReadingBack.{printed_books_read_back}
use Rattle.printing_meaning.proofs.a_printed_book_reads_back_with_the_same_types_and_exactly_the_kept_links.Goals as goal

pub returns : goal.returns
returns c = printed_books_read_back
