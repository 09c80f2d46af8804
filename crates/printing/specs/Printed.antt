-- The text of a book: each name on a line, then a line for each type that has bases.
use Rattle.std.specs.Prelude.{ℕ, ◌+◌, cond, List, [], ◌∷◌, ◌++◌, length, drop, Ok, Err, codes, Result, nat_lt}
use Rattle.descent.specs.declared.link.Link.{Link}
use Rattle.hierarchy.specs.Entering.{has_link}
use Rattle.printing.specs.declared.refusal.ShortOutput.{ShortOutput}

-- each name on a line
abbrev pub name_lines : List (List ℕ) → List ℕ
name_lines [] = []
name_lines (name ∷ names) = name ++ (codes "\n" ++ name_lines names)

-- the bases of type t among names that are numbered from `first` on, in the order of their numbers; a base past the names is none
abbrev pub base_names : List Link → ℕ → ℕ → List (List ℕ) → List (List ℕ)
base_names links t first [] = []
base_names links t first (name ∷ names) =
    let more = base_names links t (first + 1) names in
    cond (has_link links t first) (name ∷ more) more

-- each base with a separator before it: the given one before the first, `, ` before the others
abbrev pub parted : List ℕ → List (List ℕ) → List ℕ
parted separator [] = []
parted separator (base ∷ bases) = separator ++ (base ++ parted (codes ", ") bases)

-- the line of a type: its name, ` < ` and its bases; nothing where it has none
abbrev pub type_line : List ℕ → List (List ℕ) → List ℕ
type_line name [] = []
type_line name (base ∷ bases) = name ++ (parted (codes " < ") (base ∷ bases) ++ codes "\n")

-- the lines of the types that are numbered from `first` on, where `all` are the names of all types
abbrev pub type_lines : List Link → List (List ℕ) → ℕ → List (List ℕ) → List ℕ
type_lines links all first [] = []
type_lines links all first (name ∷ names) = type_line name (base_names links first 0 all) ++ type_lines links all (first + 1) names

-- the text of these names and links
abbrev pub printed : List (List ℕ) → List Link → List ℕ
printed names links = name_lines names ++ type_lines links names 0 names

-- how many bytes the text has, where the output has that many places
abbrev pub print_answer : List ℕ → ℕ → Result ℕ ShortOutput
print_answer text places = cond (nat_lt places (length text)) (Err (record { places = places; needed = length text })) (Ok (length text))

-- the text and then what stood there before; on a refusal, what the output held before
abbrev pub out_after : List ℕ → List ℕ → List ℕ
out_after text out = cond (nat_lt (length out) (length text)) out (text ++ drop (length text) out)
