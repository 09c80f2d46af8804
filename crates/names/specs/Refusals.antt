-- The number of each refusal to enter a name, and what is shown of refusals.
use Rattle.std.specs.Prelude.{ℕ, List, ◌++◌, codes, decimal}
use Rattle.names.specs.declared.refusal.NotEntered.{NotEntered}
use Rattle.names.specs.declared.refusal.Refusal.{Refusal}
use Rattle.names.specs.declared.refusal.Refusal.TheVariants.{NoTypePlace, NoBytePlace}

abbrev pub number_of : Refusal → ℕ
number_of NoTypePlace = 6
number_of NoBytePlace = 7

abbrev pub reason_of : Refusal → List ℕ
reason_of NoTypePlace = codes ": there is no place for one more type"
reason_of NoBytePlace = codes ": there is no place for the bytes of the name"

abbrev pub text_of : Refusal → List ℕ
text_of refusal = codes "refusal " ++ (decimal (number_of refusal) ++ reason_of refusal)

abbrev pub not_entered_text : NotEntered → List ℕ
not_entered_text refusal = decimal refusal.left ++ (codes " types cannot be left of " ++ decimal refusal.types)
