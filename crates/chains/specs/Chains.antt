-- What a decomposition of types into chains is.
use Rattle.std.specs.Prelude.{◌≡◌, ℕ, ◌+◌, ◌<◌, List, slice_index}
use Rattle.descent.specs.declared.link.Link.{Link}
use Rattle.descent.specs.Links.{Path}

-- one chain and one position for each of the n types, no two the same; numbers from 0 without a gap; a path from each type on a chain to the next one
pub record Chained (n : ℕ) (links : List Link) (chains positions : List ℕ) (count : ℕ) : Type 0 where
  pub below : (t : ℕ) → t < n → slice_index chains t < count
  pub apart : (t u : ℕ) → t < n → u < n → slice_index chains t ≡ slice_index chains u → slice_index positions t ≡ slice_index positions u → t ≡ u
  pub begins : (c : ℕ) → c < count → (t : ℕ) × (t < n) × (slice_index chains t ≡ c) × (slice_index positions t ≡ 0)
  pub follows : (t p : ℕ) → t < n → slice_index positions t ≡ p + 1 → (u : ℕ) × (u < n) × (slice_index chains u ≡ slice_index chains t) × (slice_index positions u ≡ p) × Path links u t
