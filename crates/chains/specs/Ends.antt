-- Chains while they are joined, and the tables that hold the first and the last type of each.
use Rattle.std.specs.Prelude.{◌≡◌, ℕ, ◌+◌, ◌<◌, ◌≤◌, Bool, not, ◌&&◌, ◌⊎◌, List, ◌==◌, ◌≢◌, slice_index}
use Rattle.descent.specs.declared.link.Link.{Link}
use Rattle.descent.specs.Links.{Path}
use Rattle.chains.specs.Joining.{chain_of, position_of}
use Rattle.chains.specs.Places.{Places}

-- what stands for the last type of a chain that does not stand
abbrev pub no_type : ℕ
no_type = 65535

-- a decomposer's meaning, but for chains that have no type
pub record Strung (n : ℕ) (links : List Link) (s : Places) : Type 0 where
  pub below : (t : ℕ) → t < n → chain_of s t < s.count
  pub apart : (t u : ℕ) → t < n → u < n → chain_of s t ≡ chain_of s u → position_of s t ≡ position_of s u → t ≡ u
  pub follows : (t p : ℕ) → t < n → position_of s t ≡ p + 1 → (u : ℕ) × (u < n) × (chain_of s u ≡ chain_of s t) × (position_of s u ≡ p) × Path links u t

-- t is the first type on chain c
pub record First (s : Places) (c t : ℕ) : Type 0 where
  pub here : chain_of s t ≡ c
  pub start : position_of s t ≡ 0

-- t is the last type on chain c
pub record Last (n : ℕ) (s : Places) (c t : ℕ) : Type 0 where
  pub here : chain_of s t ≡ c
  pub top : (u : ℕ) → u < n → chain_of s u ≡ c → position_of s u ≤ position_of s t

-- chain c stands, from its first type to its last
pub record Stands (n : ℕ) (s : Places) (c first last : ℕ) : Type 0 where
  pub first_below : first < n
  pub first_type : First s c first
  pub last_below : last < n
  pub last_type : Last n s c last

-- no type is on chain c
abbrev pub Bare : ℕ → Places → ℕ → Type 0
Bare n s c = (t : ℕ) → t < n → chain_of s t ≢ c

-- the tables hold the ends of each standing chain, and no last type for a chain that has none
abbrev pub Ends : ℕ → Places → List ℕ → List ℕ → Type 0
Ends n s first last = (c : ℕ) → c < s.count → ((slice_index last c ≡ no_type) × Bare n s c) ⊎ Stands n s c (slice_index first c) (slice_index last c)

-- whether the table has a last type for chain d
abbrev pub has_last : List ℕ → ℕ → Bool
has_last last d = not (slice_index last d == no_type)

-- whether d is another chain than c that stands, and its last type is marked
abbrev pub is_host : ℕ → List ℕ → List ℕ → ℕ → Bool
is_host c last marks d = not (d == c) && (has_last last d && slice_index marks (slice_index last d) == 1)
