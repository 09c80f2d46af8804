-- The lowest number that passes a test.
use Rattle.std.proofs.Common.{ℕ, Bool, ◌&&◌, eqb, List, get_or}
pub use Rattle.descent.proofs.Lowest.{lowest_hit, lowest_miss, lowest_end, lowest_some, lowest_none, lowest-first, lowest_same, option_cases}

-- the test that the tables give: no rank, and no link to wait for
abbrev pub waits_for_none : List ℕ → List ℕ → ℕ → Bool
waits_for_none rank waiting t = eqb (get_or rank t 0) 65535 && eqb (get_or waiting t 0) 0
