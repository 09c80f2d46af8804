-- The numbers of a script: plain decimal digits, and four of them with one space between.
use Rattle.std.specs.Prelude.{ℕ, ◌+◌, ◌-◌, ◌*◌, cond, ◌&&◌, List, [], ◌∷◌, Some, None, Option, nat_le}
use Rattle.std.specs.Borrow.{Bor}
use Rattle.std.specs.Option.{option_map}
use Rattle.script.specs.declared.numbers.Lengths.{Lengths}
use Rattle.script.specs.Words.{word, rest}

-- a number with one more digit behind it, where the byte is one and the number is not too large
abbrev pub with_digit : ℕ → ℕ → Option ℕ
with_digit v b = cond ((nat_le 48 b && nat_le b 57) && nat_le (v * 10 + (b - 48)) 4294967295) (Some (v * 10 + (b - 48))) None

abbrev pub with_digits : Option ℕ → List ℕ → Option ℕ
with_digits o [] = o
with_digits None (b ∷ bs) = None
with_digits (Some v) (b ∷ bs) = with_digits (with_digit v b) bs

-- the number that some digits are
abbrev pub number_of : List ℕ → Option ℕ
number_of [] = None
number_of (b ∷ bs) = with_digits (Some 0) (b ∷ bs)

-- the number before the first space, and what stands after it
abbrev pub number_in : List ℕ → Option (ℕ × Option (List ℕ))
number_in text = option_map (λ v. (v, rest text)) (number_of (word text))

abbrev pub rest_now : ℕ × Option (Bor (List ℕ)) → ℕ × Option (List ℕ)
rest_now p = (p.0, option_map (λ x. x.now) p.1)

-- so many numbers with one space between them, and nothing after them
abbrev pub after_index : ℕ → ℕ → ℕ → Option (ℕ × Option (List ℕ)) → Option Lengths
after_index types links pool None = None
after_index types links pool (Some (index, None)) = Some (record { types = types; links = links; pool = pool; index = index })
after_index types links pool (Some (index, Some more)) = None

abbrev pub after_pool : ℕ → ℕ → Option (ℕ × Option (List ℕ)) → Option Lengths
after_pool types links None = None
after_pool types links (Some (pool, None)) = None
after_pool types links (Some (pool, Some more)) = after_index types links pool (number_in more)

abbrev pub after_links : ℕ → Option (ℕ × Option (List ℕ)) → Option Lengths
after_links types None = None
after_links types (Some (links, None)) = None
after_links types (Some (links, Some more)) = after_pool types links (number_in more)

abbrev pub after_types : Option (ℕ × Option (List ℕ)) → Option Lengths
after_types None = None
after_types (Some (types, None)) = None
after_types (Some (types, Some more)) = after_links types (number_in more)

abbrev pub lengths_in : List ℕ → Option Lengths
lengths_in text = after_types (number_in text)
