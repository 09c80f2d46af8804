-- The two limits on names.
use Rattle.std.specs.Prelude.{◌≡◌, ℕ, ◌+◌, ◌≤◌, List, [], ◌∷◌, ◌++◌, length, count_by, nat_eq}
use Rattle.grammar.specs.Bytes.{opening, closing}
use Rattle.grammar.specs.Grammar.{Named}

-- how often a byte stands in a list
abbrev pub count : ℕ → List ℕ → ℕ
count b bs = count_by (λ x. nat_eq x b) bs

-- at most eight brackets are open at once: after each front of it
abbrev pub AtMostEightOpen : List ℕ → Type 0
AtMostEightOpen name = (front rest : List ℕ) → name ≡ front ++ rest → count opening front ≤ count closing front + 8

-- each of the names keeps both limits
abbrev pub WithinLimits : List Named → Type 0
WithinLimits [] = Unit {0}
WithinLimits (n ∷ ns) = (length n.bytes ≤ 64) × AtMostEightOpen n.bytes × WithinLimits ns
