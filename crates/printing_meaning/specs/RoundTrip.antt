-- A printed book reads back: its text, loaded into a book with nothing entered, gives the same types and exactly the printed links.
use Rattle.std.specs.Prelude.{◌≡◌, ℕ, ◌≤◌, List, [], length, Ok}
use Rattle.descent.specs.declared.link.Link.{Link}
use Rattle.descent.specs.Links.{Linked, Within}
use Rattle.names.specs.Limits.{most_types, most_bytes}
use Rattle.names.specs.Tables.{bytes_of, Different}
use Rattle.rows.specs.KeptEntries.{marked}
use Rattle.register.specs.Entries.{Entries, nothing, with_texts}
use Rattle.register.specs.Places.{Room, load_answer}
use Rattle.printing.specs.Printed.{printed}
use Rattle.printing_meaning.specs.LawfulNames.{LawfulNames}

-- what holds of the types and links of a book over tables of these sizes
pub record Printable (types : List (List ℕ)) (kept : List Link) (r : Room) : Type 0 where
  pub lawful : LawfulNames types
  pub different : Different types
  pub few_types : (length types ≤ r.names) × (length types ≤ most_types)
  pub few_bytes : (length (bytes_of types) ≤ r.pool) × (length (bytes_of types) ≤ most_bytes)
  pub within : Within kept (length types)
  pub few_links : (length kept ≤ r.links) × (length kept ≤ 8192)

-- what the printed text enters where nothing is entered
abbrev pub read_back : List (List ℕ) → List Link → Entries
read_back types kept = with_texts nothing [] (printed types kept)

-- the text is accepted; the types have the same numbers; the same links are there
pub record ReadsBack (types : List (List ℕ)) (kept : List Link) (r : Room) : Type 0 where
  pub accepted : load_answer r nothing [] (printed types kept) ≡ Ok tt
  pub same_types : (read_back types kept).names ≡ types
  pub no_more_links : (a b : ℕ) → Linked (read_back types kept).links a b → Linked kept a b
  pub all_links : (a b : ℕ) → Linked kept a b → Linked (read_back types kept).links a b

abbrev pub PrintedBooksReadBack : Type 0
PrintedBooksReadBack = (types : List (List ℕ)) (kept : List Link) (r : Room) → Printable types kept r → ReadsBack types kept r

-- a book whose links can be printed can be printed by those that are marked, as by the kept ones
abbrev pub MarkedLinksArePrintable : Type 0
MarkedLinksArePrintable = (types : List (List ℕ)) (links : List Link) (entries : List ℕ) (r : Room) → Printable types links r → Printable types (marked entries links) r
