-- Names that are lawful by themselves: those on lawful lines, and so those that texts enter.
use Rattle.std.specs.Prelude.{◌≡◌, ℕ, List, [], ◌∷◌, map}
use Rattle.std.specs.List.{AllByRecursion}
use Rattle.grammar.specs.Grammar.{Named, named}
use Rattle.grammar.specs.Reading.{reading, lawful}
use Rattle.register.specs.Entries.{Entries, with_texts}

-- a line of that name alone is lawful, and holds the name
abbrev pub LawfulName : List ℕ → Type 0
LawfulName name = reading name ≡ lawful (named 1 name ∷ [])

abbrev pub LawfulNames : List (List ℕ) → Type 0
LawfulNames names = AllByRecursion LawfulName names

-- each name on a lawful line is lawful by itself
abbrev pub LinesHoldLawfulNames : Type 0
LinesHoldLawfulNames = (line : List ℕ) (names : List Named) → reading line ≡ lawful names → LawfulNames (map (λ (n : Named). n.bytes) names)

-- whatever the texts are, they enter lawful names only
abbrev pub TextsEnterLawfulNames : Type 0
TextsEnterLawfulNames = (e : Entries) (shipped own : List ℕ) → LawfulNames e.names → LawfulNames (with_texts e shipped own).names
