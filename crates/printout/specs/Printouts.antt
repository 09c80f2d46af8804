-- What printing a register answers, and what the output then holds.
use Rattle.std.specs.Prelude.{ℕ, List, Some, None, Ok, Err, Option, Result}
use Rattle.rows.specs.KeptEntries.{kept_links}
use Rattle.printing.specs.declared.refusal.ShortOutput.{ShortOutput as Short}
use Rattle.printing.specs.Printed.{printed, print_answer, out_after}
use Rattle.register.specs.Contents.{Contents}
use Rattle.register.specs.Entries.{Entries}
use Rattle.printout.specs.declared.refusal.Unprinted.{Unprinted}
use Rattle.printout.specs.declared.refusal.Unprinted.TheVariants.{NotSettled, ShortOutput}

-- the text of what was entered: the names, and the kept links
abbrev pub text_of : Entries → List ℕ
text_of e = printed e.names (kept_links e.links)

abbrev pub printed_or : Result ℕ Short → Result ℕ Unprinted
printed_or (Ok bytes) = Ok bytes
printed_or (Err short) = Err (ShortOutput short)

-- the register is settled, and the output has a place for each byte
abbrev pub answer_by : {X : Type 0} → Option X → Entries → ℕ → Result ℕ Unprinted
answer_by None e places = Err NotSettled
answer_by (Some chains) e places = printed_or (print_answer (text_of e) places)

abbrev pub printout_answer : Contents → ℕ → Result ℕ Unprinted
printout_answer c places = answer_by c.settled c.entries places

abbrev pub output_by : {X : Type 0} → Option X → Entries → List ℕ → List ℕ
output_by None e out = out
output_by (Some chains) e out = out_after (text_of e) out

-- the text and then what stood there before; on a refusal, what the output held before
abbrev pub output_after : Contents → List ℕ → List ℕ
output_after c out = output_by c.settled c.entries out
