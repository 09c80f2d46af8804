-- What is claimed of the reading of a line, in the words of its grammar and limits.
use Rattle.std.specs.Prelude.{◌≡◌, ℕ, List}
use Rattle.grammar.specs.declared.fault.Fault.{Fault}
use Rattle.grammar.specs.Grammar.{Named, Line}
use Rattle.grammar_meaning.specs.Limits.{WithinLimits}
use Rattle.grammar_meaning.specs.BadPlaces.{BadPlace}
use Rattle.grammar.specs.Reading.{reading, lawful, unlawful}

-- each statement holds where the other does
abbrev pub Exactly : Type 0 → Type 0 → Type 0
Exactly P Q = (P → Q) × (Q → P)

-- a line is accepted, with those names, exactly when the grammar has it so and the names keep both limits
abbrev pub AcceptsLawfulLines : Type 0
AcceptsLawfulLines = (line : List ℕ) (names : List Named) → Exactly (reading line ≡ lawful names) (Line line names × WithinLimits names)

-- a line is refused with a fault exactly where its bad place is
abbrev pub RefusesAtBadPlaces : Type 0
RefusesAtBadPlaces = (line : List ℕ) (fault : Fault) → Exactly (reading line ≡ unlawful fault) (BadPlace line fault)
