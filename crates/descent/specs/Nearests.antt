-- Common bases, and the nearest of them.
use Rattle.std.specs.Prelude.{◌≡◌, ℕ, ◌<◌, Some, None, Ok, Err, Option, Result}
use Rattle.descent.specs.declared.refusal.Refusal.{Refusal}
use Rattle.descent.specs.Refusals.{question_refusal}

-- both a and b are related to c, which is below n
abbrev pub Common : ℕ → (ℕ → ℕ → Type 0) → ℕ → ℕ → ℕ → Type 0
Common n R a b c = (c < n) × R a c × R b c

-- where d is a common base that is related to c, then c is related to d
abbrev pub Yields : ℕ → (ℕ → ℕ → Type 0) → ℕ → ℕ → ℕ → ℕ → Type 0
Yields n R a b c d = Common n R a b d → R d c → R c d

-- d is a common base that is related to c, and c is not related to d
abbrev pub Undercuts : ℕ → (ℕ → ℕ → Type 0) → ℕ → ℕ → ℕ → ℕ → Type 0
Undercuts n R a b c d = Common n R a b d × R d c × (R c d → ⊥)

-- c is a common base, and related to each common base that is related to it
abbrev pub Near : ℕ → (ℕ → ℕ → Type 0) → ℕ → ℕ → ℕ → Type 0
Near n R a b c = Common n R a b c × ((d : ℕ) → Yields n R a b c d)

-- the lowest-numbered near one, or none where there is no common base
abbrev pub Nearest : ℕ → (ℕ → ℕ → Type 0) → ℕ → ℕ → Option ℕ → Type 0
Nearest n R a b (Some c) = Near n R a b c × ((e : ℕ) → e < c → Near n R a b e → ⊥)
Nearest n R a b None = (c : ℕ) → Common n R a b c → ⊥

-- what the search for the nearest common base of a and b answers, where there are n types
abbrev pub FindsNearest : ℕ → (ℕ → ℕ → Type 0) → ℕ → ℕ → Result (Option ℕ) Refusal → Type 0
FindsNearest n R a b (Ok found) = (question_refusal n a b ≡ None) × Nearest n R a b found
FindsNearest n R a b (Err refusal) = question_refusal n a b ≡ Some refusal
