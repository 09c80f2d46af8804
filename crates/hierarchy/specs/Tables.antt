-- What tables of links hold.
use Rattle.std.specs.Prelude.{◌≡◌, ℕ, ◌<◌, ◌≤◌, List, length, ◌≢◌, slice_index_or}
use Rattle.descent.specs.declared.link.Link.{Link}
use Rattle.descent.specs.Links.{no_link}

-- no two places of the list hold the same
abbrev pub Distinct : List Link → Type 0
Distinct links = (i j : ℕ) → i < j → j < length links → slice_index_or links i no_link ≢ slice_index_or links j no_link

-- the places from k on hold 0
abbrev pub ZeroFrom : ℕ → List Link → Type 0
ZeroFrom k links = (i : ℕ) → k ≤ i → slice_index_or links i no_link ≡ no_link
