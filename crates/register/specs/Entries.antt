-- What the lines of texts enter: names in their sequence, and links between their numbers.
use Rattle.std.specs.Prelude.{ℕ, cond, List, [], ◌∷◌, ◌++◌, length, Some, None, Option}
use Rattle.descent.specs.declared.link.Link.{Link}
use Rattle.descent.specs.Links.{link}
use Rattle.hierarchy.specs.Entering.{has_link}
use Rattle.names.specs.Finding.{number_in}
use Rattle.grammar.specs.Grammar.{Named}
use Rattle.grammar.specs.Reading.{Outcome, lawful, unlawful, reading}
use Rattle.texts.specs.Texts.{lines_of}

-- names, numbered from 0, and links between the numbers
pub record Entries : Type 0 where
  pub names : List (List ℕ)
  pub links : List Link

abbrev pub entries : List (List ℕ) → List Link → Entries
entries names links = record { names = names; links = links }

abbrev pub nothing : Entries
nothing = entries [] []

abbrev pub number_or : Option ℕ → ℕ → ℕ
number_or (Some number) next = number
number_or None next = next

-- the number that a name has, or gets as a new one
abbrev pub number_for : List (List ℕ) → List ℕ → ℕ
number_for names bytes = number_or (number_in names bytes) (length names)

abbrev pub unless_known : Option ℕ → List (List ℕ) → List ℕ → List (List ℕ)
unless_known (Some number) names bytes = names
unless_known None names bytes = names ++ (bytes ∷ [])

-- a known name is not entered twice
abbrev pub with_name : List (List ℕ) → List ℕ → List (List ℕ)
with_name names bytes = unless_known (number_in names bytes) names bytes

-- a known link is not entered twice
abbrev pub with_link : List Link → Link → List Link
with_link links l = cond (has_link links l.from l.to) links (links ++ (l ∷ []))

-- a base is entered as a name, and as a link to it
abbrev pub with_base : ℕ → Entries → List ℕ → Entries
with_base from e base = entries (with_name e.names base) (with_link e.links (link from (number_for e.names base)))

abbrev pub with_bases : ℕ → Entries → List Named → Entries
with_bases from e [] = e
with_bases from e (base ∷ bases) = with_bases from (with_base from e base.bytes) bases

-- the first name of a line is entered, then every base in turn
abbrev pub with_names : Entries → List Named → Entries
with_names e [] = e
with_names e (name ∷ bases) = with_bases (number_for e.names name.bytes) (entries (with_name e.names name.bytes) e.links) bases

-- the names of a lawful line
abbrev pub names_on : Outcome → List Named
names_on (lawful names) = names
names_on (unlawful fault) = []

abbrev pub with_lines : Entries → List (List ℕ) → Entries
with_lines e [] = e
with_lines e (line ∷ lines) = with_lines (with_names e (names_on (reading line))) lines

-- the shipped text, then the own one
abbrev pub with_texts : Entries → List ℕ → List ℕ → Entries
with_texts e shipped own = with_lines (with_lines e (lines_of shipped)) (lines_of own)
