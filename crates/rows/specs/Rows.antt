-- A type's row: for each chain the lowest position there from whose type it descends.
use Rattle.std.specs.Prelude.{◌≡◌, ℕ, zero, suc, ◌<◌, ◌≤◌, min, Bool, cond, ◌&&◌, ◌⊎◌, List, map, ◌==◌, slice_index}
use Rattle.std.specs.List.{range_with_len, flat_map}
use Rattle.descent.specs.declared.link.Link.{Link}
use Rattle.descent.specs.Computed.{descends}

-- what a row has for a chain with no such position
abbrev pub no_position : ℕ
no_position = 65535

-- the lowest position on chain c of the types below n that pass the test, or 65,535 where none does
abbrev pub lowest_position : (ℕ → Bool) → List ℕ → List ℕ → ℕ → ℕ → ℕ
lowest_position test chains positions c zero = no_position
lowest_position test chains positions c (suc b) =
    min (cond (slice_index chains b == c && test b) (slice_index positions b) no_position) (lowest_position test chains positions c b)

-- the entry of type a for chain c
abbrev pub entry_of : ℕ → List Link → List ℕ → List ℕ → ℕ → ℕ → ℕ
entry_of n links chains positions a c = lowest_position (descends links a) chains positions c n

-- the row of type a, where there are `count` chains
abbrev pub row_of : ℕ → List Link → List ℕ → List ℕ → ℕ → ℕ → List ℕ
row_of n links chains positions count a = map (entry_of n links chains positions a) (range_with_len 0 count)

-- the rows of all types, one after another
abbrev pub rows_of : ℕ → List Link → List ℕ → List ℕ → ℕ → List ℕ
rows_of n links chains positions count = flat_map (row_of n links chains positions count) (range_with_len 0 n)

-- v is the lowest position on chain c of the types below n that have R, or 65,535 where none has
pub record Lowest (n : ℕ) (chains positions : List ℕ) (R : ℕ → Type 0) (c v : ℕ) : Type 0 where
  pub bound : v ≤ 65535
  pub low : (b : ℕ) → b < n → slice_index chains b ≡ c → R b → v ≤ slice_index positions b
  pub hit : (v ≡ 65535) ⊎ ((b : ℕ) × (b < n) × (slice_index chains b ≡ c) × (slice_index positions b ≡ v) × R b)
