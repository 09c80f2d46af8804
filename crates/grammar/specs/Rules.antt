-- The numbers of the refusals of a line, by the rule that it breaks.
use Rattle.std.specs.Prelude.{ℕ}
use Rattle.grammar.specs.declared.fault.Rule.{Rule}
use Rattle.grammar.specs.declared.fault.Rule.TheVariants.{Printable, Brackets, Length, Grammar}

abbrev pub rule_number : Rule → ℕ
rule_number Printable = 2
rule_number Brackets = 3
rule_number Length = 4
rule_number Grammar = 5
