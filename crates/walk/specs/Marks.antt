-- The mark table of a walk.
use Rattle.std.specs.Prelude.{◌≡◌, ℕ, ◌<◌, List, length, slice_index}

-- every mark is 0
abbrev pub Clear : List ℕ → Type 0
Clear marks = (k : ℕ) → k < length marks → slice_index marks k ≡ 0
