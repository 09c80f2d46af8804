-- The number of each refusal.
use Rattle.std.specs.Prelude.{ℕ}
use Rattle.hierarchy.specs.declared.refusal.Refusal.{Refusal}
use Rattle.hierarchy.specs.declared.refusal.Refusal.TheVariants.{NoTypePlace, NoLinkPlace, NotBelow, NotEntered}

abbrev pub number_of : Refusal → ℕ
number_of NoTypePlace = 6
number_of NoLinkPlace = 8
number_of (NotBelow number types) = 16
number_of NotEntered = 16
