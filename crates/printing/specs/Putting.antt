-- A text put into an output at its place.
use Rattle.std.specs.Prelude.{◌≡◌, ℕ, ◌+◌, ◌<◌, ◌≤◌, List, length}
use Rattle.names.specs.Tables.{written}
use Rattle.printing.specs.declared.output.Output.{Output}

-- the place is past the text in any case; where the text fits, the same output holds it then
pub record Puts (text : List ℕ) (before after : Output) : Type 0 where
  pub same : after.out.ghost_name ≡ before.out.ghost_name
  pub size : length after.out.now ≡ length before.out.now
  pub end : after.at ≡ before.at + length text
  pub holds : after.at ≤ length before.out.now → after.out.now ≡ written before.at text before.out.now

-- the place where the text would end is far below the largest number
abbrev pub EndFits : List ℕ → Output → Type 0
EndFits text output = output.at + length text < 1000000000
