-- The words of a line: what stands before its first space, and what after.
use Rattle.std.specs.Prelude.{ℕ, Bool, cond, not, ◌&&◌, List, length, Some, None, Option, ◌==◌}
use Rattle.std.specs.Borrow.{Bor}
use Rattle.std.specs.List.{list_any}
use Rattle.texts.specs.Splitting.{is_byte, before_byte, after_byte}

abbrev pub space : ℕ
space = 32

-- the bytes before the first space, or all of them
abbrev pub word : List ℕ → List ℕ
word line = before_byte space line

-- the bytes after the first space, if there is one
abbrev pub rest : List ℕ → Option (List ℕ)
rest line = after_byte space line

-- whether these are one or more bytes without a space
abbrev pub is_name : List ℕ → Bool
is_name bytes = not (length bytes == 0) && not (list_any (is_byte space) bytes)

-- two names with one space between them
abbrev pub two_names : List ℕ → Option (List ℕ) → Option (List ℕ × List ℕ)
two_names first None = None
two_names first (Some second) = cond (is_name first && is_name second) (Some (first, second)) None

abbrev pub names_in : List ℕ → Option (List ℕ × List ℕ)
names_in text = two_names (word text) (rest text)

abbrev pub both_now : Bor (List ℕ) × Bor (List ℕ) → List ℕ × List ℕ
both_now p = (p.0.now, p.1.now)
