-- Names by number, and numbers by name.
use Rattle.std.specs.Prelude.{ℕ, ◌+◌, cond, List, [], ◌∷◌, length, Some, None, Option, nat_lt, slice_index_or}
use Rattle.std.specs.Str.{bytes_eq}

-- the name of the type of that number
abbrev pub name_of : List (List ℕ) → ℕ → Option (List ℕ)
name_of names number = cond (nat_lt number (length names)) (Some (slice_index_or names number [])) None

-- the number of the first name with these bytes, where the names are numbered from `first` on
abbrev pub number_from : ℕ → List (List ℕ) → List ℕ → Option ℕ
number_from first [] bytes = None
number_from first (name ∷ names) bytes = cond (bytes_eq name bytes) (Some first) (number_from (first + 1) names bytes)

-- the number of the type of that name
abbrev pub number_in : List (List ℕ) → List ℕ → Option ℕ
number_in names bytes = number_from 0 names bytes
