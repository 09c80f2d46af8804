-- Links, paths and descent.
use Rattle.std.specs.Prelude.{◌≡◌, ℕ, ◌<◌, ◌⊎◌, List, length, slice_index_or}
use Rattle.descent.specs.declared.link.Link.{Link}

-- what a place past the end of a list of links reads as
abbrev pub no_link : Link
no_link = record { from = 0; to = 0 }

abbrev pub link : ℕ → ℕ → Link
link a b = record { from = a; to = b }

-- some link of the list runs from a to b
abbrev pub Linked : List Link → ℕ → ℕ → Type 0
Linked links a b = (k : ℕ) × (k < length links) × ((slice_index_or links k no_link).from ≡ a) × ((slice_index_or links k no_link).to ≡ b)

-- one or more links, each starting where the one before ended
pub data Path (links : List Link) : ℕ → ℕ → Type 0 where
  one : {a b : ℕ} → Linked links a b → Path links a b
  more : {a b c : ℕ} → Linked links a b → Path links b c → Path links a c

-- a is b, or a path runs from a to b
abbrev pub Descends : List Link → ℕ → ℕ → Type 0
Descends links a b = (a ≡ b) ⊎ Path links a b

-- both ends of each link are below n
abbrev pub Within : List Link → ℕ → Type 0
Within links n = (k : ℕ) → k < length links → ((slice_index_or links k no_link).from < n) × ((slice_index_or links k no_link).to < n)
