-- The numbers of each refusal, and the values that it returns.
use Rattle.std.specs.Prelude.{ℕ, Some, None}
use Rattle.texts.specs.declared.refusal.Place.{Place}
use Rattle.texts.specs.declared.refusal.Report.{Report}
use Rattle.texts.specs.Refusals.{refusal_number, place_of as text_place, text_number}
use Rattle.register.specs.declared.refusal.Refusal.{Refusal}
use Rattle.register.specs.declared.refusal.Refusal.TheVariants.{Text, NoTypePlace, NoBytePlace, NoLinkPlace}
use Rattle.register.specs.declared.refusal.Which.{Which}
use Rattle.register.specs.declared.refusal.Which.TheVariants.{First, Second}
use Rattle.register.specs.declared.refusal.NotAsked.{NotAsked}
use Rattle.register.specs.declared.refusal.NotAsked.TheVariants.{NotSettled, Unknown}
use Rattle.register.specs.declared.refusal.Report.{Report as AskReport}

abbrev pub number_of : Refusal → ℕ
number_of (Text refusal) = refusal_number refusal
number_of (NoTypePlace at) = 6
number_of (NoBytePlace at) = 7
number_of (NoLinkPlace at) = 8

abbrev pub place_of : Refusal → Place
place_of (Text refusal) = text_place refusal
place_of (NoTypePlace at) = at
place_of (NoBytePlace at) = at
place_of (NoLinkPlace at) = at

-- its number, and the text, line and column that it points to
abbrev pub report_of : Refusal → Report
report_of r = record { number = number_of r; text = text_number (place_of r).source; line = (place_of r).line; column = (place_of r).column }

-- 1 for the first name, 2 for the second
abbrev pub which_number : Which → ℕ
which_number First = 1
which_number Second = 2

-- its number, and which of the two names is unknown, where one is
abbrev pub ask_report_of : NotAsked → AskReport
ask_report_of NotSettled = record { number = 12; which = None }
ask_report_of (Unknown which) = record { number = 13; which = Some which }
