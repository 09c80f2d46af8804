-- General facts about names: what their numbers say, what the tables say, and that taking back undoes entering.
use Rattle.std.specs.Prelude.{◌≡◌, ℕ, ◌≤◌, List, [], ◌∷◌, length, Some, Ok}
use Rattle.names.specs.Tables.{span, bytes_of, pool_of, spans_of, names_at, wiped, Different}
use Rattle.names.specs.Finding.{name_of, number_in}
use Rattle.names.specs.Entering.{enter_answer, names_after, back_answer, names_left}

-- the names after each of `more` was entered in turn, in a pool of `size` bytes and a name table of `places` entries
abbrev pub entered_all : ℕ → ℕ → List (List ℕ) → List (List ℕ) → List (List ℕ)
entered_all size places names [] = names
entered_all size places names (bytes ∷ more) = entered_all size places (names_after names bytes (enter_answer size places names bytes)) more

-- the names find their places in the tables
abbrev pub Fits : ℕ → ℕ → List (List ℕ) → Type 0
Fits size places names = (length (bytes_of names) ≤ size) × (length names ≤ places)

-- taking back to as many types as `before` had is not refused and leaves these names; with the places of the later names set to 0, both tables are as they were
pub record Undone (size places : ℕ) (before after : List (List ℕ)) : Type 0 where
  pub answer : back_answer after (length before) ≡ Ok tt
  pub names : names_left after (length before) (back_answer after (length before)) ≡ before
  pub pool : wiped 0 (length (bytes_of before)) (length (bytes_of after)) (pool_of after size) ≡ pool_of before size
  pub table : wiped (span 0 0) (length before) (length after) (spans_of after places) ≡ spans_of before places

abbrev pub TakingBackUndoesEntering : Type 0
TakingBackUndoesEntering = (size places : ℕ) (names more : List (List ℕ)) → Fits size places names → Undone size places names (entered_all size places names more)

-- a number is found for a name exactly when it is the number of that name
abbrev pub NumbersAreOfNames : Type 0
NumbersAreOfNames =
    (names : List (List ℕ)) (bytes : List ℕ) (number : ℕ) → Different names →
    (number_in names bytes ≡ Some number → name_of names number ≡ Some bytes) × (name_of names number ≡ Some bytes → number_in names bytes ≡ Some number)

-- a name that has a number has it still after other names were entered
abbrev pub EnteringKeepsNumbers : Type 0
EnteringKeepsNumbers =
    (size places : ℕ) (names more : List (List ℕ)) (bytes : List ℕ) (number : ℕ) →
    number_in names bytes ≡ Some number → number_in (entered_all size places names more) bytes ≡ Some number

-- the names can be read back from their tables
abbrev pub TablesTellNames : Type 0
TablesTellNames = (names : List (List ℕ)) (size places : ℕ) → names_at (pool_of names size) (spans_of names places) (length names) ≡ names
