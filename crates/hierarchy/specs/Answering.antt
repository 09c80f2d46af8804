-- What the tables of a settled book say.
use Rattle.std.specs.Prelude.{◌≡◌, ℕ, ◌+◌, ◌*◌, ◌<◌, ◌≤◌, List, length, take, Some, None, Option, nat_le, slice_index}
use Rattle.descent.specs.declared.link.Link.{Link}
use Rattle.descent.specs.Computed.{descends}
use Rattle.order.specs.Order.{order_of}
use Rattle.rows.specs.KeptEntries.{kept_of}

-- the row entry of a at b's chain is at most b's position exactly where a descends from b
abbrev pub EntriesTell : ℕ → ℕ → List Link → List ℕ → List ℕ → List ℕ → Type 0
EntriesTell count n links chain position index =
    (a b : ℕ) → a < n → b < n → nat_le (slice_index index (a * count + slice_index chain b)) (slice_index position b) ≡ descends links a b

-- the tables have room for each type, and their entries tell
abbrev pub IndexAnswers : ℕ → ℕ → List Link → List ℕ → List ℕ → List ℕ → Type 0
IndexAnswers count n links chain position index =
    (n * count ≤ length index) × (n ≤ length chain) × (n ≤ length position) × ((b : ℕ) → b < n → slice_index chain b < count)
    × EntriesTell count n links chain position index

-- where the book is settled: each type has its rank, kept entries are written, and the index answers
abbrev pub Answering : Option ℕ → ℕ → List Link → List ℕ → List ℕ → List ℕ → List ℕ → List ℕ → Type 0
Answering None n links order chain position kept index = Unit {0}
Answering (Some count) n links order chain position kept index =
    (length (order_of n links) ≡ n) × (take n order ≡ order_of n links) × (take (length links) kept ≡ kept_of links) × IndexAnswers count n links chain position index
