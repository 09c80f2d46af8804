-- The tables that are lent to settling, by what they hold.
use Rattle.std.specs.Prelude.{◌≡◌, ℕ, List, length}
use Rattle.std.specs.Borrow.{MutBor}
use Rattle.settling.specs.declared.tables.Tables.{Tables as Lent}
use Rattle.settling.specs.Settling.{Tables}

abbrev pub entries_of : Lent → Tables
entries_of t = record { order = t.order.now; chain = t.chain.now; position = t.position.now; kept = t.kept.now; index = t.index.now; loop = t.loop_table.now; scratch = t.scratch.now }

-- the same table of the host, whatever its entries are
pub record Same (before after : MutBor (List ℕ)) : Type 0 where
  pub name : after.ghost_name ≡ before.ghost_name
  pub long : length after.now ≡ length before.now

pub record SameTables (before after : Lent) : Type 0 where
  pub order : Same before.order after.order
  pub chain : Same before.chain after.chain
  pub position : Same before.position after.position
  pub kept : Same before.kept after.kept
  pub index : Same before.index after.index
  pub loop : Same before.loop_table after.loop_table
  pub scratch : Same before.scratch after.scratch
