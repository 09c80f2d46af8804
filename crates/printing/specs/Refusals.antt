-- What is shown of a refusal to print.
use Rattle.std.specs.Prelude.{ℕ, List, ◌++◌, codes, decimal}
use Rattle.printing.specs.declared.refusal.ShortOutput.{ShortOutput}

abbrev pub text_of : ShortOutput → List ℕ
text_of refusal = codes "refusal " ++ (decimal 18 ++ (codes ": " ++ (decimal refusal.places ++ (codes " places are too few for " ++ (decimal refusal.needed ++ codes " bytes")))))
