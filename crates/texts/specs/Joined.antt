-- What the lines of a text are: joined by byte 10 they make the text, and none has a byte 10.
use Rattle.std.specs.Prelude.{◌≡◌, ℕ, ◌+◌, List, [], ◌∷◌, length, count_by}
use Rattle.std.specs.List.{join_with_byte}
use Rattle.texts.specs.Splitting.{is_byte}
use Rattle.texts.specs.Texts.{newline, lines_of}

abbrev pub joined : List (List ℕ) → List ℕ
joined lines = join_with_byte newline lines

-- how many bytes 10 a list has
abbrev pub newlines : List ℕ → ℕ
newlines bytes = count_by (is_byte newline) bytes

abbrev pub NoNewlines : List (List ℕ) → Type 0
NoNewlines [] = Unit {0}
NoNewlines (l ∷ ls) = (newlines l ≡ 0) × NoNewlines ls

abbrev pub LinesMakeTheText : Type 0
LinesMakeTheText = (text : List ℕ) → (joined (lines_of text) ≡ text) × NoNewlines (lines_of text) × (length (lines_of text) ≡ newlines text + 1)
