-- The tables of a list of names: the byte pool and the name table, and how they are written.
use Rattle.std.specs.Prelude.{ℕ, ◌+◌, ◌-◌, ◌<◌, List, [], ◌∷◌, ◌++◌, map, length, take, drop, replicate, ◌≢◌, slice_index_or}
use Rattle.names.specs.declared.span.Span.{Span}

abbrev pub span : ℕ → ℕ → Span
span start size = record { start = start; length = size }

-- the bytes of the names, one after another
abbrev pub bytes_of : List (List ℕ) → List ℕ
bytes_of [] = []
bytes_of (name ∷ names) = name ++ bytes_of names

-- where names lie that stand one after another from `start` on
abbrev pub spans_from : ℕ → List (List ℕ) → List Span
spans_from start [] = []
spans_from start (name ∷ names) = span start (length name) ∷ spans_from (start + length name) names

-- a table of `size` places that holds `front` at its front and is `zero` in the rest
abbrev pub padded : {X : Type 0} → X → ℕ → List X → List X
padded zero size front = front ++ replicate (size - length front) zero

-- the byte pool of `size` bytes that holds exactly these names
abbrev pub pool_of : List (List ℕ) → ℕ → List ℕ
pool_of names size = padded 0 size (bytes_of names)

-- the name table of `places` entries that holds exactly these names
abbrev pub spans_of : List (List ℕ) → ℕ → List Span
spans_of names places = padded (span 0 0) places (spans_from 0 names)

-- the part of a pool that a span marks
abbrev pub part : List ℕ → Span → List ℕ
part pool s = take s.length (drop s.start pool)

-- the names that the first `count` entries of a name table mark in a pool
abbrev pub names_at : List ℕ → List Span → ℕ → List (List ℕ)
names_at pool spans count = map (part pool) (take count spans)

-- no two of the names are the same
abbrev pub Different : List (List ℕ) → Type 0
Different names = (i j : ℕ) → i < j → j < length names → slice_index_or names i [] ≢ slice_index_or names j []

-- the places from `first` up to `last` set to `zero`
abbrev pub wiped : {X : Type 0} → X → ℕ → ℕ → List X → List X
wiped zero first last table = take first table ++ (replicate (last - first) zero ++ drop last table)

-- `items` written into the places from `first` on
abbrev pub written : {X : Type 0} → ℕ → List X → List X → List X
written first items table = take first table ++ (items ++ drop (first + length items) table)
