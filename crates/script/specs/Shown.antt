-- What is printed for an answer, and for a step that makes no call.
use Rattle.std.specs.Prelude.{ℕ, Bool, true, false, List, ◌++◌, Ok, Err, codes, decimal, Result}
use Rattle.texts.specs.declared.refusal.Report.{Report}
use Rattle.texts.specs.Refusals.{report_text}
use Rattle.register.specs.declared.refusal.Refusal.{Refusal}
use Rattle.register.specs.declared.refusal.NotAsked.{NotAsked}
use Rattle.register.specs.declared.refusal.NotAsked.TheVariants.{NotSettled, Unknown}
use Rattle.register.specs.Refusals.{report_of, which_number}
use Rattle.settling.specs.declared.outcome.Settled.{Settled}
use Rattle.settling.specs.declared.outcome.Unsettled.{Unsettled}
use Rattle.settling.specs.declared.outcome.Unsettled.TheVariants.{ShortTable, Loop, ShortIndex}
use Rattle.declarations.specs.declared.call.Stub.{Stub}
use Rattle.declarations.specs.declared.call.Answer.{Answer}
use Rattle.declarations.specs.declared.call.Answer.TheVariants.{Load, Open, Keep, Withdraw, Settle, Ask}
use Rattle.declarations.specs.declared.ticket.Unopened.{Unopened}
use Rattle.script.specs.declared.step.Remark.{Remark}
use Rattle.script.specs.declared.step.Remark.TheVariants as remark

-- `load: refused N T L C` and byte 10
abbrev pub shown_report : Report → List ℕ
shown_report r = codes "load: refused " ++ (report_text r ++ codes "\n")

abbrev pub shown_load : Result (Unit {0}) Refusal → List ℕ
shown_load (Ok u) = codes "load: accepted\n"
shown_load (Err refusal) = shown_report (report_of refusal)

-- `open: ticket B K` and byte 10
abbrev pub shown_ticket : Stub → List ℕ
shown_ticket s = codes "open: ticket " ++ (decimal s.book ++ (codes " " ++ (decimal s.trial ++ codes "\n")))

abbrev pub shown_open : Result Stub Unopened → List ℕ
shown_open (Ok ticket) = shown_ticket ticket
shown_open (Err refusal) = codes "open: refused 14\n"

abbrev pub shown_keep : Result (Unit {0}) Stub → List ℕ
shown_keep (Ok u) = codes "keep: accepted\n"
shown_keep (Err stub) = codes "keep: refused 15\n"

abbrev pub shown_withdraw : Result (Unit {0}) Stub → List ℕ
shown_withdraw (Ok u) = codes "withdraw: accepted\n"
shown_withdraw (Err stub) = codes "withdraw: refused 15\n"

-- `settle: TYPES LINKS CHAINS KEPT` and byte 10
abbrev pub shown_settled : Settled → List ℕ
shown_settled s =
    codes "settle: " ++ (decimal s.types ++ (codes " " ++ (decimal s.links ++ (codes " " ++ (decimal s.chains ++ (codes " " ++ (decimal s.kept ++ codes "\n")))))))

-- `settle: refused N` and, where it returns one, a value
abbrev pub shown_unsettled : Unsettled → List ℕ
shown_unsettled ShortTable = codes "settle: refused 9\n"
shown_unsettled (Loop size) = codes "settle: refused 10 " ++ (decimal size ++ codes "\n")
shown_unsettled (ShortIndex needed) = codes "settle: refused 11 " ++ (decimal needed ++ codes "\n")

abbrev pub shown_settle : Result Settled Unsettled → List ℕ
shown_settle (Ok settled) = shown_settled settled
shown_settle (Err refusal) = shown_unsettled refusal

abbrev pub shown_ask : Result Bool NotAsked → List ℕ
shown_ask (Ok true) = codes "ask: yes\n"
shown_ask (Ok false) = codes "ask: no\n"
shown_ask (Err NotSettled) = codes "ask: refused 12\n"
shown_ask (Err (Unknown which)) = codes "ask: refused 13 " ++ (decimal (which_number which) ++ codes "\n")

-- the line that is printed for an answer
abbrev pub shown_answer : Answer → List ℕ
shown_answer (Load loaded) = shown_load loaded
shown_answer (Open opened) = shown_open opened
shown_answer (Keep spent) = shown_keep spent
shown_answer (Withdraw spent) = shown_withdraw spent
shown_answer (Settle settled) = shown_settle settled
shown_answer (Ask asked) = shown_ask asked

abbrev pub shown_unknown : List ℕ → List ℕ
shown_unknown word = codes "unknown: " ++ (word ++ codes "\n")

-- the line that is printed for a step that makes no call
abbrev pub shown_remark : Remark → List ℕ
shown_remark (remark.Unknown word) = shown_unknown word.now
shown_remark remark.Tables = codes "tables: refused\n"
shown_remark remark.Keep = codes "keep: no ticket\n"
shown_remark remark.Withdraw = codes "withdraw: no ticket\n"
