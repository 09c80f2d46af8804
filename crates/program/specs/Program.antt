-- What the program answers to an input: the text of the settled register, or what is refused.
use Rattle.std.specs.Prelude.{ℕ, cond, List, [], length, Ok, Err, Result, nat_lt}
pub use Rattle.texts.specs.Refusals.{placeless, refused_line as shown_report}
use Rattle.order.specs.Order.{order_of}
use Rattle.rows.specs.KeptEntries.{kept_links}
use Rattle.printing.specs.Printed.{printed}
use Rattle.register.specs.declared.refusal.Refusal.{Refusal}
use Rattle.register.specs.Entries.{Entries, nothing, with_texts}
use Rattle.register.specs.Places.{Room, room, load_answer}
use Rattle.register.specs.Refusals.{report_of}

-- places for the bytes of the names, for types and for links
abbrev pub places : Room
places = room 8192 128 512

-- a text of more than 8,192 bytes is refused
abbrev pub shown_text : List ℕ → List ℕ
shown_text text = cond (nat_lt 8192 (length text)) (shown_report (placeless 18)) text

-- where there is a loop, types are left out of the order; else all types are printed with the kept links
abbrev pub shown_entries : Entries → List ℕ
shown_entries e =
    cond (nat_lt (length (order_of (length e.names) e.links)) (length e.names)) (shown_report (placeless 10))
    (shown_text (printed e.names (kept_links e.links)))

abbrev pub shown_load : List ℕ → Result (Unit {0}) Refusal → List ℕ
shown_load input (Ok loaded) = shown_entries (with_texts nothing [] input)
shown_load input (Err refusal) = shown_report (report_of refusal)

-- an input of more than 8,192 bytes is refused; else it is the own text, and there is no shipped one
abbrev pub program_bytes : List ℕ → List ℕ
program_bytes input = cond (nat_lt 8192 (length input)) (shown_report (placeless 1)) (shown_load input (load_answer places nothing [] input))
