-- The relations of layers over an answerer.
use Rattle.std.specs.Prelude.{ℕ, ◌≤◌, List, slice_index}

-- the one below with its two numbers swapped
abbrev pub Swapped : (ℕ → ℕ → Type 0) → ℕ → ℕ → Type 0
Swapped R a b = R b a

-- the one below, where the first level is at most the second
abbrev pub Gated : List ℕ → (ℕ → ℕ → Type 0) → ℕ → ℕ → Type 0
Gated levels R a b = R a b × (slice_index levels a ≤ slice_index levels b)
