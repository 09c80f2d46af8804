-- What settling a book answers, and what the book then holds.
use Rattle.std.specs.Prelude.{◌≡◌, ℕ, List, length, Some, None, Ok, Err, Option, Result}
use Rattle.settling.specs.declared.outcome.Settled.{Settled}
use Rattle.settling.specs.declared.outcome.Unsettled.{Unsettled}
use Rattle.settling.specs.declared.outcome.Unsettled.TheVariants.{ShortTable, Loop, ShortIndex}
use Rattle.settling.specs.Settling.{Tables, Giving, SettlesAs}
use Rattle.hierarchy.specs.Entering.{links_in}
use Rattle.hierarchy.specs.Books.{Book, Written}

-- tables that hold these entries
abbrev pub tables : List ℕ → List ℕ → List ℕ → List ℕ → List ℕ → List ℕ → List ℕ → Tables
tables order chain position kept index loop scratch = record { order = order; chain = chain; position = position; kept = kept; index = index; loop = loop; scratch = scratch }

-- the book's tables with the loop table and the working memory of the call
abbrev pub tables_of : Written → List ℕ → List ℕ → Tables
tables_of w loop scratch = tables w.order w.chain w.position w.kept w.index loop scratch

-- whether the book is settled after an answer
abbrev pub settled_by : Result Settled Unsettled → Option ℕ → Option ℕ
settled_by (Ok s) before = Some s.chains
settled_by (Err ShortTable) before = before
settled_by (Err (Loop size)) before = None
settled_by (Err (ShortIndex needed)) before = None

-- how many entries each of the book's number tables has
pub record Sizes : Type 0 where
  pub order : ℕ
  pub chain : ℕ
  pub position : ℕ
  pub kept : ℕ
  pub index : ℕ

abbrev pub sizes : ℕ → ℕ → ℕ → ℕ → ℕ → Sizes
sizes order chain position kept index = record { order = order; chain = chain; position = position; kept = kept; index = index }

abbrev pub sizes_of : Written → Sizes
sizes_of w = sizes (length w.order) (length w.chain) (length w.position) (length w.kept) (length w.index)

-- number and entries stay; the tables are as settling leaves them
pub record BookSettles (Gives : Giving) (before : Book) (loop scratch : List ℕ) (r : Result Settled Unsettled) (after : Book) (loop' scratch' : List ℕ) : Type 0 where
  pub number : after.number ≡ before.number
  pub held : after.held ≡ before.held
  pub settled : after.settled ≡ settled_by r before.settled
  pub tables : SettlesAs Gives before.held.types (links_in before.held) (tables_of before.written loop scratch) r (tables_of after.written loop' scratch')
