-- A register over tables of the sizes that the program makes, and one with nothing entered.
use Rattle.std.specs.Prelude.{◌≡◌}
use Rattle.hierarchy.specs.SettledBooks.{sizes, sizes_of}
use Rattle.register.specs.Contents.{Contents}
use Rattle.register.specs.Entries.{nothing}
use Rattle.program.specs.Program.{places}

-- a register over tables of these sizes
pub record OverTables (c : Contents) : Type 0 where
  pub room : c.room ≡ places
  pub written : sizes_of c.written ≡ sizes 128 128 128 512 16384

pub record NewRegister (c : Contents) : Type 0 where
  pub entries : c.entries ≡ nothing
  pub over : OverTables c
