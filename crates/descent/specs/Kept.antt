-- Kept links: those whose ends no longer path joins.
use Rattle.std.specs.Prelude.{ℕ, List}
use Rattle.descent.specs.declared.link.Link.{Link}
use Rattle.descent.specs.Links.{Linked, Path}

-- two or more links
abbrev pub LongPath : List Link → ℕ → ℕ → Type 0
LongPath links a b = (w : ℕ) × Linked links a w × Path links w b

abbrev pub Kept : List Link → ℕ → ℕ → Type 0
Kept links a b = Linked links a b × (LongPath links a b → ⊥)

-- the links of the second list are the kept links of the first
abbrev pub KeepsExactly : List Link → List Link → Type 0
KeepsExactly links kept = (a b : ℕ) → (Linked kept a b → Kept links a b) × (Kept links a b → Linked kept a b)
