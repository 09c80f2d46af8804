-- One sweep of the links over the marks.
use Rattle.std.specs.Prelude.{◌≡◌, ℕ, ◌<◌, List, count_by, nat_eq, slice_index, slice_index_or}
use Rattle.descent.specs.declared.link.Link.{Link}
use Rattle.descent.specs.Links.{no_link, Descends}
use Rattle.walk.specs.declared.search.Progress.{Progress}
use Rattle.walk.specs.declared.search.Progress.TheVariants.{Found, Grew, Still}

abbrev pub Marked : List ℕ → ℕ → Type 0
Marked marks k = 0 < slice_index marks k

-- a descends from each type that is marked
abbrev pub Reached : List Link → ℕ → List ℕ → Type 0
Reached links a marks = (k : ℕ) → Marked marks k → Descends links a k

-- the first i links lead from no marked type to one that is not
abbrev pub Closed : List Link → ℕ → List ℕ → Type 0
Closed links i marks = (k : ℕ) → k < i → Marked marks (slice_index_or links k no_link).from → Marked marks (slice_index_or links k no_link).to

abbrev pub unmarked : List ℕ → ℕ
unmarked marks = count_by (λ mark. nat_eq mark 0) marks

-- how a sweep that seeks a type stands after the first i links
abbrev pub Swept : List Link → ℕ → List ℕ → List ℕ → ℕ → Progress → Type 0
Swept links i old new sought Found = (a : ℕ) → Reached links a old → Descends links a sought
Swept links i old new sought Grew = unmarked new < unmarked old
Swept links i old new sought Still = (new ≡ old) × Closed links i new
