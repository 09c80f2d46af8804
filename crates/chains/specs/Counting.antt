-- The numbers below a bound that pass a test: whether there is one, and how many.
use Rattle.std.specs.Prelude.{ℕ, zero, suc, ◌+◌, Bool, false, cond, ◌||◌}

abbrev pub some : ℕ → (ℕ → Bool) → Bool
some zero test = false
some (suc m) test = test m || some m test

abbrev pub passing : ℕ → (ℕ → Bool) → ℕ
passing zero test = 0
passing (suc m) test = cond (test m) 1 0 + passing m test
