-- A numbered book by what it holds, and what its calls leave.
use Rattle.std.specs.Prelude.{ℕ, List, replicate, None, Ok, Err, vec_items, Option, Result}
use Rattle.descent.specs.Links.{no_link}
use Rattle.hierarchy.specs.declared.book.Hierarchy.{Hierarchy}
use Rattle.hierarchy.specs.declared.entering.Entry.{Entry}
use Rattle.hierarchy.specs.declared.entering.Entry.TheVariants.{New, Known}
use Rattle.hierarchy.specs.declared.refusal.Refusal.{Refusal}
use Rattle.hierarchy.specs.Answering.{Answering}
use Rattle.hierarchy.specs.Entering.{Held, held_of, links_in, with_type, with_link, with_back}

-- the tables that settling writes
pub record Written : Type 0 where
  pub order : List ℕ
  pub chain : List ℕ
  pub position : List ℕ
  pub kept : List ℕ
  pub index : List ℕ

-- the book's number, what was entered, its tables, and the number of chains where it is settled
pub record Book : Type 0 where
  pub number : ℕ
  pub held : Held
  pub written : Written
  pub settled : Option ℕ

abbrev pub book_of : Hierarchy → Book
book_of b = record {
  number = b.number;
  held = held_of b.entered;
  written = record { order = vec_items b.order; chain = vec_items b.chain; position = vec_items b.position; kept = vec_items b.kept; index = vec_items b.index };
  settled = b.chains;
}

-- a book with nothing entered, over tables of these lengths
abbrev pub new_book : ℕ → ℕ → ℕ → ℕ → ℕ → ℕ → ℕ → ℕ → Book
new_book number room links order chain position kept index = record {
  number = number;
  held = record { room = room; types = 0; count = 0; table = replicate links no_link };
  written = record { order = replicate order 65535; chain = replicate chain 65535; position = replicate position 65535; kept = replicate kept 65535; index = replicate index 65535 };
  settled = None;
}

-- other entries, and not settled
abbrev pub changed : Book → Held → Book
changed b h = record { number = b.number; held = h; written = b.written; settled = None }

-- the same, but for whether it is settled
abbrev pub with_chains : Book → Option ℕ → Book
with_chains b chains = record { number = b.number; held = b.held; written = b.written; settled = chains }

-- what the tables say of that many chains, for what was entered
abbrev pub Answers : Option ℕ → Book → Type 0
Answers chains b = Answering chains b.held.types (links_in b.held) b.written.order b.written.chain b.written.position b.written.kept b.written.index

-- what every book keeps: the tables answer for as many chains as it is settled with
abbrev pub BooksAnswer : Type 0
BooksAnswer = (b : Hierarchy) → ∥ Answers b.chains (book_of b) ∥₁

abbrev pub after_type : Book → Result ℕ Refusal → Book
after_type b (Ok t) = changed b (with_type b.held (Ok t))
after_type b (Err refusal) = b

abbrev pub after_link : Book → ℕ → ℕ → Result Entry Refusal → Book
after_link b from to (Ok New) = changed b (with_link b.held from to (Ok New))
after_link b from to (Ok Known) = b
after_link b from to (Err refusal) = b

abbrev pub after_back : Book → ℕ → ℕ → Result (Unit {0}) Refusal → Book
after_back b types links (Ok u) = changed b (with_back b.held types links (Ok u))
after_back b types links (Err refusal) = b
