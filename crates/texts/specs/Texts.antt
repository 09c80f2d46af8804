-- The lines of a text, and what is refused of a pair of texts.
use Rattle.std.specs.Prelude.{ℕ, zero, suc, ◌+◌, cond, List, [], ◌∷◌, length, None, Ok, Err, Option, Result, nat_lt}
use Rattle.std.specs.List.{slice_get, slice_split, onto_first}
use Rattle.texts.specs.declared.refusal.Source.{Source}
use Rattle.texts.specs.declared.refusal.Source.TheVariants.{Shipped, Own}
use Rattle.texts.specs.declared.refusal.Refusal.{Refusal}
use Rattle.texts.specs.declared.refusal.Refusal.TheVariants.{TooLong, Unlawful}
use Rattle.texts.specs.Refusals.{place}
use Rattle.texts.specs.Splitting.{is_byte}
use Rattle.grammar.specs.Reading.{Outcome, lawful, unlawful, reading}

abbrev pub newline : ℕ
newline = 10

-- a byte before the first of some lines
abbrev pub before : ℕ → List (List ℕ) → List (List ℕ)
before b ls = onto_first b ls

-- a line ends at each byte 10 and at the text's end
abbrev pub lines_of : List ℕ → List (List ℕ)
lines_of text = slice_split (is_byte newline) text

-- the line of a number, counted from 1
abbrev pub line_at : List (List ℕ) → ℕ → Option (List ℕ)
line_at ls zero = None
line_at ls (suc k) = slice_get ls k

abbrev pub text_of : Source → List ℕ → List ℕ → List ℕ
text_of Shipped shipped own = shipped
text_of Own shipped own = own

-- the answer for the lines from number k on: the first fault, if there is one
abbrev pub judged : Source → ℕ → Outcome → Result (Unit {0}) Refusal → Result (Unit {0}) Refusal
judged source k (lawful names) more = more
judged source k (unlawful fault) more = Err (Unlawful fault.rule (place source k fault.column))

abbrev pub checked_lines : Source → ℕ → List (List ℕ) → Result (Unit {0}) Refusal
checked_lines source k [] = Ok tt
checked_lines source k (l ∷ ls) = judged source k (reading l) (checked_lines source (k + 1) ls)

abbrev pub checked_length : Source → List ℕ → Result (Unit {0}) Refusal
checked_length source text = cond (nat_lt 1048576 (length text)) (Err (TooLong source)) (Ok tt)

-- the first that is refused
abbrev pub then : Result (Unit {0}) Refusal → Result (Unit {0}) Refusal → Result (Unit {0}) Refusal
then (Ok u) more = more
then (Err refusal) more = Err refusal

-- both lengths, then the shipped text's lines, then the own text's
abbrev pub checked_texts : List ℕ → List ℕ → Result (Unit {0}) Refusal
checked_texts shipped own =
    then (checked_length Shipped shipped)
    (then (checked_length Own own)
    (then (checked_lines Shipped 1 (lines_of shipped)) (checked_lines Own 1 (lines_of own))))
