-- What the readers of declarations answer, against the outcome of reading the line.
use Rattle.std.specs.Prelude.{◌≡◌, List, [], ◌∷◌, map, Some, None, Ok, Err, vec_items, Option, Result}
use Rattle.grammar.specs.declared.declaration.Name.{Name}
use Rattle.grammar.specs.declared.declaration.Declaration.{Declaration}
use Rattle.grammar.specs.declared.declaration.Unread.{Unread}
use Rattle.grammar.specs.declared.declaration.Unread.TheVariants.{Unlawful, NoMemory}
use Rattle.grammar.specs.Grammar.{Named, named}
use Rattle.grammar.specs.Reading.{Outcome, lawful, unlawful}

abbrev pub name_of : Name → Named
name_of n = named n.column n.bytes.now

-- the declared name, then the bases
abbrev pub names_of : Declaration → List Named
names_of d = name_of d.name ∷ map name_of (vec_items d.bases)

abbrev pub all_names_of : Option Declaration → List Named
all_names_of None = []
all_names_of (Some d) = names_of d

-- the outcome has the names that the answer has, or its fault; nothing is said where memory is wanting
abbrev pub Reads : {A : Type 0} → (A → List Named) → Outcome → Result A Unread → Type 0
Reads names_in o (Ok a) = o ≡ lawful (names_in a)
Reads names_in o (Err (Unlawful fault)) = o ≡ unlawful fault
Reads names_in o (Err NoMemory) = Unit {0}
