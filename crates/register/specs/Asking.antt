-- What an ask by names answers.
use Rattle.std.specs.Prelude.{ℕ, Bool, List, Some, None, Ok, Err, Option, Result}
use Rattle.descent.specs.declared.link.Link.{Link}
use Rattle.descent.specs.Computed.{descends}
use Rattle.names.specs.Finding.{number_in}
use Rattle.register.specs.declared.refusal.Which.TheVariants.{First, Second}
use Rattle.register.specs.declared.refusal.NotAsked.{NotAsked}
use Rattle.register.specs.declared.refusal.NotAsked.TheVariants.{NotSettled, Unknown}
use Rattle.register.specs.Contents.{Contents}

-- the numbers of two names, or which is the first unknown one
abbrev pub numbers_found : Option ℕ → Option ℕ → Result (ℕ × ℕ) NotAsked
numbers_found (Some a) (Some b) = Ok (a, b)
numbers_found (Some a) None = Err (Unknown Second)
numbers_found None b = Err (Unknown First)

-- the register is settled, and both names are types
abbrev pub numbers_answer : {X : Type 0} → Option X → List (List ℕ) → List ℕ → List ℕ → Result (ℕ × ℕ) NotAsked
numbers_answer None names first second = Err NotSettled
numbers_answer (Some chains) names first second = numbers_found (number_in names first) (number_in names second)

abbrev pub said_of : List Link → Result (ℕ × ℕ) NotAsked → Result Bool NotAsked
said_of links (Ok pair) = Ok (descends links pair.0 pair.1)
said_of links (Err refusal) = Err refusal

abbrev pub numbers_of : Contents → List ℕ → List ℕ → Result (ℕ × ℕ) NotAsked
numbers_of c first second = numbers_answer c.settled c.entries.names first second

-- whether the first descends from the second
abbrev pub ask_answer : Contents → List ℕ → List ℕ → Result Bool NotAsked
ask_answer c first second = said_of c.entries.links (numbers_of c first second)
