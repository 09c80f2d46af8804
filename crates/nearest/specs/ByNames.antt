-- The nearest common base of two types, by names.
use Rattle.std.specs.Prelude.{◌≡◌, ℕ, List, length, Some, None, Ok, Err, Option, Result}
use Rattle.std.specs.Option.{option_map}
use Rattle.descent.specs.Computed.{descends, nearest}
use Rattle.descent.specs.Links.{Descends}
use Rattle.descent.specs.Nearests.{Nearest}
use Rattle.names.specs.Finding.{name_of}
use Rattle.register.specs.declared.refusal.NotAsked.{NotAsked}
use Rattle.register.specs.Asking.{numbers_of}
use Rattle.register.specs.Contents.{Contents}
use Rattle.register.specs.Entries.{Entries}

-- the nearest common base of two types, by the descent of the links
abbrev pub nearest_of : Entries → ℕ → ℕ → Option ℕ
nearest_of e a b = nearest (length e.names) (descends e.links) a b

-- the name of a type, where there is one
abbrev pub name_of_some : List (List ℕ) → Option ℕ → Option (List ℕ)
name_of_some names (Some number) = name_of names number
name_of_some names None = None

abbrev pub answer_for : Entries → Result (ℕ × ℕ) NotAsked → Result (Option (List ℕ)) NotAsked
answer_for e (Ok pair) = Ok (name_of_some e.names (nearest_of e pair.0 pair.1))
answer_for e (Err refusal) = Err refusal

-- the register is settled and both names are types: then the name of their nearest common base, or none
abbrev pub nearest_answer : Contents → List ℕ → List ℕ → Result (Option (List ℕ)) NotAsked
nearest_answer c first second = answer_for c.entries (numbers_of c first second)

-- an answer by the bytes of the name that it points to
abbrev pub bytes_in : {X : Type 0} → (X → List ℕ) → Result (Option X) NotAsked → Result (Option (List ℕ)) NotAsked
bytes_in bytes (Ok found) = Ok (option_map bytes found)
bytes_in bytes (Err refusal) = Err refusal

-- it is the name of the nearest common base by descent, or none where there is no common base
abbrev pub NamesNearest : Entries → ℕ → ℕ → Option (List ℕ) → Type 0
NamesNearest e a b (Some name) = (c : ℕ) × (name_of e.names c ≡ Some name) × Nearest (length e.names) (Descends e.links) a b (Some c)
NamesNearest e a b None = Nearest (length e.names) (Descends e.links) a b None

-- where both names are types, the answer is the nearest of their common bases by descent
abbrev pub AnswersAreNearest : Type 0
AnswersAreNearest =
    (c : Contents) (first second : List ℕ) (a b : ℕ) → numbers_of c first second ≡ Ok (a, b) →
    (found : Option (List ℕ)) × (nearest_answer c first second ≡ Ok found) × NamesNearest c.entries a b found
