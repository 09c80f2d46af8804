-- The numbers of a refusal: its own, and those that it returns and shows.
use Rattle.std.specs.Prelude.{ℕ, List, ◌++◌, codes, decimal}
use Rattle.grammar.specs.Rules.{rule_number}
use Rattle.texts.specs.declared.refusal.Source.{Source}
use Rattle.texts.specs.declared.refusal.Source.TheVariants.{Shipped, Own}
use Rattle.texts.specs.declared.refusal.Place.{Place}
use Rattle.texts.specs.declared.refusal.Refusal.{Refusal}
use Rattle.texts.specs.declared.refusal.Refusal.TheVariants.{TooLong, Unlawful}
use Rattle.texts.specs.declared.refusal.Report.{Report}

abbrev pub text_number : Source → ℕ
text_number Shipped = 1
text_number Own = 2

abbrev pub refusal_number : Refusal → ℕ
refusal_number (TooLong source) = 1
refusal_number (Unlawful rule place) = rule_number rule

abbrev pub place : Source → ℕ → ℕ → Place
place source line column = record { source = source; line = line; column = column }

-- a text that is too long has no line and no column
abbrev pub place_of : Refusal → Place
place_of (TooLong source) = place source 0 0
place_of (Unlawful rule p) = p

abbrev pub report_of : Refusal → Report
report_of r = record { number = refusal_number r; text = text_number (place_of r).source; line = (place_of r).line; column = (place_of r).column }

-- `N T L C`
abbrev pub report_text : Report → List ℕ
report_text r = decimal r.number ++ (codes " " ++ (decimal r.text ++ (codes " " ++ (decimal r.line ++ (codes " " ++ decimal r.column)))))

-- a refusal that points to no place
abbrev pub placeless : ℕ → Report
placeless number = record { number = number; text = 0; line = 0; column = 0 }

-- `refused N T L C` and byte 10
abbrev pub refused_line : Report → List ℕ
refused_line r = codes "refused " ++ (report_text r ++ codes "\n")
