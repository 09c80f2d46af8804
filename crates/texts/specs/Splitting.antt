-- A text cut at the first byte of a value.
use Rattle.std.specs.Prelude.{ℕ, Bool, cond, List, length, Some, None, Option, ◌==◌, nat_lt}
use Rattle.std.specs.List.{before_first, after_first, position_or_len}

-- whether a byte has that value
abbrev pub is_byte : ℕ → ℕ → Bool
is_byte byte b = b == byte

-- what stands before the first such byte, or all of the text
abbrev pub before_byte : ℕ → List ℕ → List ℕ
before_byte byte text = before_first (is_byte byte) text

-- what stands after the first such byte, if there is one
abbrev pub after_byte : ℕ → List ℕ → Option (List ℕ)
after_byte byte text = cond (nat_lt (position_or_len (is_byte byte) text) (length text)) (Some (after_first (is_byte byte) text)) None
