-- Ranked types: what a decomposer is given.
use Rattle.std.specs.Prelude.{◌≡◌, ℕ, ◌<◌, ◌≤◌, List, length, slice_index, slice_index_or}
use Rattle.descent.specs.declared.link.Link.{Link}
use Rattle.descent.specs.Links.{no_link, Linked, Within}

-- each type below n has its own rank below n, and ranks rise along each link
pub record Ranked (n : ℕ) (links : List Link) (order rank : List ℕ) : Type 0 where
  pub within : Within links n
  pub long : length order ≡ n
  pub ranks : (t : ℕ) → t < n → (slice_index rank t < n) × (slice_index order (slice_index rank t) ≡ t)
  pub types : (r : ℕ) → r < n → (slice_index order r < n) × (slice_index rank (slice_index order r) ≡ r)
  pub rising : (a b : ℕ) → Linked links a b → slice_index rank a < slice_index rank b

-- the numbers of the links, each of them there, those of a higher-ranked type first
pub record Falling (links : List Link) (rank falling : List ℕ) : Type 0 where
  pub long : length falling ≡ length links
  pub below : (i : ℕ) → i < length falling → slice_index falling i < length links
  pub all : (k : ℕ) → k < length links → (i : ℕ) × (i < length falling) × (slice_index falling i ≡ k)
  pub falls : (i j : ℕ) → i < j → j < length falling → slice_index rank (slice_index_or links (slice_index falling j) no_link).from ≤ slice_index rank (slice_index_or links (slice_index falling i) no_link).from
