-- The number of each refusal to print.
use Rattle.std.specs.Prelude.{ℕ}
use Rattle.printout.specs.declared.refusal.Unprinted.{Unprinted}
use Rattle.printout.specs.declared.refusal.Unprinted.TheVariants.{NotSettled, ShortOutput}

abbrev pub number_of : Unprinted → ℕ
number_of NotSettled = 12
number_of (ShortOutput short) = 18
