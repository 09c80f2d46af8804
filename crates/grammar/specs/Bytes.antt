-- The bytes of a declaration text, by the part that they may play.
use Rattle.std.specs.Prelude.{ℕ, Bool, true, cond, ◌==◌}
use Rattle.std.specs.Char.{is_ascii_digit, is_ascii_alphabetic}
use Rattle.std.specs.Int.{is_in_range}

-- from 32 to 126
abbrev pub printable : ℕ → Bool
printable b = is_in_range 32 126 b

-- a letter or `_`
abbrev pub begins : ℕ → Bool
begins b = cond (is_ascii_alphabetic b) true (b == 95)

-- a letter, a digit or `_`
abbrev pub continues : ℕ → Bool
continues b = cond (is_ascii_alphabetic b) true (cond (is_ascii_digit b) true (b == 95))

-- ` ` `#` `,` `<` `[` `]`
abbrev pub space : ℕ
space = 32

abbrev pub hash : ℕ
hash = 35

abbrev pub comma : ℕ
comma = 44

abbrev pub less : ℕ
less = 60

abbrev pub opening : ℕ
opening = 91

abbrev pub closing : ℕ
closing = 93
