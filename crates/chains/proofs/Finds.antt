-- A search through the numbers from a start.
use Rattle.std.proofs.Common.{◌≡◌, ℕ, zero, suc, ◌+◌, Bool, cond, Some, refl, ap}
use Rattle.std.specs.List.{find, range_with_len}
use Rattle.order.specs.Order.{lowest}

-- the first of the numbers that passes is the lowest one that does
pub find_lowest : (test : ℕ → Bool) (from m : ℕ) → find test (range_with_len from m) ≡ lowest test from m
find_lowest test from zero = refl
find_lowest test from (suc m) = ap (λ o. cond (test from) (Some from) o) (find_lowest test (from + 1) m)
