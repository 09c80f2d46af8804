-- What is printed for a script: its calls are made on one new book, and each step prints its line.
use Rattle.std.specs.Prelude.{◌≡◌, ℕ, List, map}
use Rattle.declarations.specs.declared.book.Book.{Book}
use Rattle.declarations.specs.declared.call.Answer.{Answer}
use Rattle.declarations.specs.declared.call.Call.{Call}
use Rattle.register.specs.declared.tables.TableSizes.{TableSizes}
use Rattle.declarations.specs.Running.{Ran, setup_for}
use Rattle.descent.specs.Links.{Descends}
use Rattle.walk.specs.declared.walk.Walk.{Walk}
use Rattle.script.specs.declared.method.Method.{Method}
use Rattle.script.specs.declared.numbers.Lengths.{Lengths}
use Rattle.script.specs.Methods.{given}
use Rattle.script.specs.Reading.{script_of}
use Rattle.script.specs.Steps.{called_by, calls_in, shown_steps}

-- order, chain and position tables have an entry for each type, the kept table one for each link
abbrev pub sizes_of : Lengths → TableSizes
sizes_of l =
    record { pool = l.pool; names = l.types; links = l.links; order = l.types; chain = l.types; position = l.types; kept = l.links; index = l.index }

-- the answerer by which links are trimmed: a walk over some links
abbrev pub walk_types : Walk → ℕ
walk_types w = w.types

abbrev pub walk_relates : Walk → ℕ → ℕ → Type 0
walk_relates w = Descends w.links.now

-- the script's calls were made on a new book of number 0, which keeps the law, and the lines of its steps are printed
pub record Replayed (input printed : List ℕ) : Type 0 where
  pub calls : List (Call Method)
  pub answers : List Answer
  pub book : Book
  pub called : map called_by calls ≡ calls_in (script_of input).steps
  pub ran : Ran given walk_types walk_relates (setup_for 0 (sizes_of (script_of input).lengths)) calls answers book
  pub shown : printed ≡ shown_steps (script_of input).steps answers
