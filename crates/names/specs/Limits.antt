-- The limits of a book's names.
use Rattle.std.specs.Prelude.{ℕ}

abbrev pub most_types : ℕ
most_types = 1024

abbrev pub most_bytes : ℕ
most_bytes = 65536
