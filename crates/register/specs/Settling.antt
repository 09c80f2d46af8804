-- What settling a register answers, and what it then holds.
use Rattle.std.specs.Prelude.{◌≡◌, ℕ, List, length, Result}
use Rattle.settling.specs.declared.outcome.Settled.{Settled}
use Rattle.settling.specs.declared.outcome.Unsettled.{Unsettled}
use Rattle.settling.specs.Settling.{Giving, SettlesAs}
use Rattle.hierarchy.specs.SettledBooks.{settled_by, sizes_of, tables_of}
use Rattle.register.specs.Contents.{Contents, contents}

-- number, sizes of the tables and entries stay; the tables are as settling leaves them, and so is whether it is settled
pub record Settles (Gives : Giving) (before : Contents) (loop scratch : List ℕ) (r : Result Settled Unsettled) (after : Contents) (loop' scratch' : List ℕ) : Type 0 where
  pub same : after ≡ contents before.number before.room before.entries after.written (settled_by r before.settled)
  pub sizes : sizes_of after.written ≡ sizes_of before.written
  pub tables : SettlesAs Gives (length before.entries.names) before.entries.links (tables_of before.written loop scratch) r (tables_of after.written loop' scratch')
