-- Kept entries: 1 for a link where no path of two or more links joins its ends, else 0.
use Rattle.std.specs.Prelude.{◌≡◌, ℕ, ◌<◌, Bool, false, cond, ◌&&◌, ◌||◌, List, [], ◌∷◌, map, length, ◌==◌, ◌≢◌, slice_index_or}
use Rattle.descent.specs.declared.link.Link.{Link}
use Rattle.descent.specs.Computed.{descends}
use Rattle.descent.specs.Links.{no_link}
use Rattle.descent.specs.Trims.{ones}

-- some link of the list leads from a to a type that passes the test
abbrev pub some_base : List Link → ℕ → (ℕ → Bool) → Bool
some_base [] a test = false
some_base (link ∷ links) a test = (link.from == a && test link.to) || some_base links a test

-- a path of two or more links runs from a to b: a link from a to some w, a link from w to some x, and x descends from b
abbrev pub long_path : List Link → ℕ → ℕ → Bool
long_path links a b = some_base links a (λ w. some_base links w (λ x. descends links x b))

abbrev pub kept_entry : List Link → Link → ℕ
kept_entry links link = cond (long_path links link.from link.to) 0 1

-- the entries of the links, in their order
abbrev pub kept_of : List Link → List ℕ
kept_of links = map (kept_entry links) links

-- the number of kept links
abbrev pub kept_count : List Link → ℕ
kept_count links = ones (kept_of links)

-- the links whose entry is 1
abbrev pub marked : List ℕ → List Link → List Link
marked [] links = []
marked (entry ∷ entries) [] = []
marked (entry ∷ entries) (link ∷ links) = cond (entry == 1) (link ∷ marked entries links) (marked entries links)

abbrev pub kept_links : List Link → List Link
kept_links links = marked (kept_of links) links

-- no two links have the same ends
abbrev pub Different : List Link → Type 0
Different links =
    (i j : ℕ) → i < j → j < length links → (slice_index_or links i no_link).from ≡ (slice_index_or links j no_link).from → (slice_index_or links i no_link).to ≢ (slice_index_or links j no_link).to
