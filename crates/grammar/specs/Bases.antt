-- The bases of a line, one after another.
use Rattle.std.specs.Prelude.{◌≡◌, ℕ, suc, ◌-◌, ◌<◌, ◌≤◌, List, [], ◌∷◌, ◌++◌, length, Some, None, Ok, Err, Option, Result}
use Rattle.std.specs.Option.{ForSome}
use Rattle.grammar.specs.declared.fault.Fault.{Fault}
use Rattle.grammar.specs.declared.declaration.Name.{Name}
use Rattle.grammar.specs.Grammar.{Named}
use Rattle.grammar.specs.Reading.{first, base, fresh, in_name, nothing, Outcome, lawful, unlawful}
use Rattle.grammar.specs.Posts.{onward, recalled}
use Rattle.grammar.specs.Declarations.{name_of}

-- a base begins within the line, if there is one
abbrev pub Within : List ℕ → Option ℕ → Type 0
Within s start = ForSome start (λ i. i ≤ length s)

-- what becomes of a line after some names: the next base is to begin, or the line is over
abbrev pub left_of : List ℕ → Option ℕ → List Named → Outcome
left_of s None ns = lawful ns
left_of s (Some i) ns = onward s i (in_name base fresh 0) (recalled s ns i i)

-- there are no more bases than this
abbrev pub bytes_left : List ℕ → Option ℕ → ℕ
bytes_left s None = 0
bytes_left s (Some i) = suc (length s - i)

-- the first name, and where the first base begins
abbrev pub FirstTaken : List ℕ → Result (Name × Option ℕ) Fault → Type 0
FirstTaken s (Ok p) = Within s p.1 × (onward s 0 (in_name first fresh 0) nothing ≡ left_of s p.1 (name_of p.0 ∷ []))
FirstTaken s (Err x) = onward s 0 (in_name first fresh 0) nothing ≡ unlawful x

-- the base at i, and where the next one begins
abbrev pub BaseTaken : List ℕ → ℕ → Result (Name × Option ℕ) Fault → Type 0
BaseTaken s i (Ok p) = ForSome p.1 (λ j. (i < j) × (j ≤ length s)) × ((ns : List Named) → left_of s (Some i) ns ≡ left_of s p.1 (ns ++ (name_of p.0 ∷ [])))
BaseTaken s i (Err x) = (ns : List Named) → left_of s (Some i) ns ≡ unlawful x

-- one step through the bases: the next one, a fault, or none where the line is over
abbrev pub Steps : List ℕ → Option ℕ → Option (Result Name Fault) → Option ℕ → Type 0
Steps s start None after = start ≡ None
Steps s start (Some (Ok n)) after = (ns : List Named) → left_of s start ns ≡ left_of s after (ns ++ (name_of n ∷ []))
Steps s start (Some (Err x)) after = (ns : List Named) → left_of s start ns ≡ unlawful x
