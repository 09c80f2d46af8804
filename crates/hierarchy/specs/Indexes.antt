-- What making a chain index answers.
use Rattle.std.specs.Prelude.{ℕ, Some, None, Ok, Err, Option, Result}
use Rattle.hierarchy.specs.declared.refusal.NotSettled.{NotSettled}
use Rattle.hierarchy.specs.Books.{Book}

-- whether the book is settled, asked before an index is made
abbrev pub settled_answer : Option ℕ → Result ℕ NotSettled
settled_answer (Some chains) = Ok chains
settled_answer None = Err record {}

-- the types of a settled book, and none of another
abbrev pub types_of : Option ℕ → ℕ → ℕ
types_of (Some chains) types = types
types_of None types = 0

abbrev pub indexed_types : Book → ℕ
indexed_types b = types_of b.settled b.held.types
