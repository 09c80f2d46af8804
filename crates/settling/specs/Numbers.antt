-- The number of each refusal to settle, and the value that it returns, if any.
use Rattle.std.specs.Prelude.{Some, None}
use Rattle.settling.specs.declared.outcome.Unsettled.{Unsettled}
use Rattle.settling.specs.declared.outcome.Unsettled.TheVariants.{ShortTable, Loop, ShortIndex}
use Rattle.settling.specs.declared.outcome.Report.{Report}

abbrev pub report_of : Unsettled → Report
report_of ShortTable = record { number = 9; value = None }
report_of (Loop size) = record { number = 10; value = Some size }
report_of (ShortIndex needed) = record { number = 11; value = Some needed }
