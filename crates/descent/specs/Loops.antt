-- Loops, and ranks that rule them out.
use Rattle.std.specs.Prelude.{◌≡◌, ℕ, ◌+◌, ◌<◌, List, length, ◌≢◌, slice_index}
use Rattle.descent.specs.declared.link.Link.{Link}
use Rattle.descent.specs.Links.{Linked, Path}

-- one or more different types, each linked to the next and the last to the first
pub record Loop (links : List Link) (types : List ℕ) : Type 0 where
  pub some : 0 < length types
  pub different : (i j : ℕ) → i < j → j < length types → slice_index types i ≢ slice_index types j
  pub next : (i : ℕ) → i + 1 < length types → Linked links (slice_index types i) (slice_index types (i + 1))
  pub back : (i : ℕ) → i + 1 ≡ length types → Linked links (slice_index types i) (slice_index types 0)

-- no path leads from a type back to itself
abbrev pub LoopFree : List Link → Type 0
LoopFree links = (a : ℕ) → Path links a a → ⊥

-- ranks rise along each link
abbrev pub Rising : List Link → (ℕ → ℕ) → Type 0
Rising links rank = (a b : ℕ) → Linked links a b → rank a < rank b
