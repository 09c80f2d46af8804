-- Reading a script: from its lines to its tables and its steps.
use Rattle.std.specs.Prelude.{ℕ, ◌-◌, ◌*◌, Bool, true, false, cond, List, [], ◌∷◌, ◌++◌, map, length, take, Some, None, vec_items, codes, Option}
use Rattle.texts.specs.Texts.{lines_of}
use Rattle.declarations.specs.declared.call.Stub.{Stub}
use Rattle.script.specs.declared.numbers.Lengths.{Lengths}
use Rattle.script.specs.declared.reading.Script.{Script}
use Rattle.script.specs.declared.tickets.Tickets.{Tickets}
use Rattle.script.specs.Lines.{Said, tables, shipped, own, load, opens as open-line, keep, withdraw, settle, ask, unknown, said}
use Rattle.script.specs.Shown.{shown_unknown}
use Rattle.script.specs.Steps.{loads, opens, keeps, withdraws, settles, asks, Doing, makes, prints, doing}
use Rattle.script.specs.Tickets.{after_open, spent, after_spend}

-- the lines of a text so far, each with byte 10 behind it, and one more
abbrev pub with_line : List ℕ → List ℕ → List ℕ
with_line lines line = lines ++ (line ++ codes "\n")

-- the text of some lines: byte 10 stands only between them
abbrev pub text_of : List ℕ → List ℕ
text_of lines = take (length lines - 1) lines

-- a script as far as it is read, with the lines of the next load
pub record Reading : Type 0 where
  pub lengths : Lengths
  pub steps : List Doing
  pub shipped_lines : List ℕ
  pub own_lines : List ℕ
  pub tickets : Tickets

abbrev pub reading_of : Script → Reading
reading_of s = record { lengths = s.lengths; steps = map doing (vec_items s.steps); shipped_lines = vec_items s.shipped; own_lines = vec_items s.own; tickets = s.tickets }

abbrev pub begun : Reading
begun = record { lengths = record { types = 1024; links = 8192; pool = 65536; index = 1048576 }; steps = []; shipped_lines = []; own_lines = []; tickets = record { held = None; opened = 0 } }

abbrev pub with_lengths : Reading → Lengths → Reading
with_lengths r l = record { lengths = l; steps = r.steps; shipped_lines = r.shipped_lines; own_lines = r.own_lines; tickets = r.tickets }

abbrev pub with_step : Reading → Doing → Reading
with_step r d = record { lengths = r.lengths; steps = r.steps ++ (d ∷ []); shipped_lines = r.shipped_lines; own_lines = r.own_lines; tickets = r.tickets }

abbrev pub with_texts : Reading → List ℕ → List ℕ → Reading
with_texts r s o = record { lengths = r.lengths; steps = r.steps; shipped_lines = s; own_lines = o; tickets = r.tickets }

abbrev pub with_tickets : Reading → Tickets → Reading
with_tickets r t = record { lengths = r.lengths; steps = r.steps; shipped_lines = r.shipped_lines; own_lines = r.own_lines; tickets = t }

-- the tables are given only by the first line
abbrev pub with_tables : Bool → Reading → Option Lengths → Reading
with_tables first r None = with_step r (prints (codes "tables: refused\n"))
with_tables first r (Some l) = cond first (with_lengths r l) (with_step r (prints (codes "tables: refused\n")))

-- a load takes both texts, which then begin anew
abbrev pub with_load : Reading → Reading
with_load r = with_step (with_texts r [] []) (makes (loads (text_of r.shipped_lines) (text_of r.own_lines)))

abbrev pub with_open : Reading → Reading
with_open r = with_step (with_tickets r (after_open r.tickets)) (makes opens)

-- the ticket that is held is spent, or else there is none
abbrev pub kept : Option Stub → Doing
kept None = prints (codes "keep: no ticket\n")
kept (Some ticket) = makes (keeps ticket)

abbrev pub withdrawn : Option Stub → Doing
withdrawn None = prints (codes "withdraw: no ticket\n")
withdrawn (Some ticket) = makes (withdraws ticket)

abbrev pub with_keep : Reading → Reading
with_keep r = with_step (with_tickets r (after_spend r.tickets)) (kept (spent r.tickets))

abbrev pub with_withdraw : Reading → Reading
with_withdraw r = with_step (with_tickets r (after_spend r.tickets)) (withdrawn (spent r.tickets))

-- one more line, which may be the first
abbrev pub with_said : Bool → Reading → Said → Reading
with_said first r (tables lengths) = with_tables first r lengths
with_said first r (shipped text) = with_texts r (with_line r.shipped_lines text) r.own_lines
with_said first r (own text) = with_texts r r.shipped_lines (with_line r.own_lines text)
with_said first r load = with_load r
with_said first r open-line = with_open r
with_said first r keep = with_keep r
with_said first r withdraw = with_withdraw r
with_said first r (settle method) = with_step r (makes (settles method r.lengths.types (4 * r.lengths.types)))
with_said first r (ask a b) = with_step r (makes (asks a b))
with_said first r (unknown word) = with_step r (prints (shown_unknown word))

-- empty lines are passed over
abbrev pub with_bytes : Bool → Reading → List ℕ → Reading
with_bytes first r [] = r
with_bytes first r (b ∷ bs) = with_said first r (said (b ∷ bs))

abbrev pub with_lines : Bool → Reading → List (List ℕ) → Reading
with_lines first r [] = r
with_lines first r (l ∷ ls) = with_lines false (with_bytes first r l) ls

-- the script that some bytes are
abbrev pub script_of : List ℕ → Reading
script_of input = with_lines true begun (lines_of input)
