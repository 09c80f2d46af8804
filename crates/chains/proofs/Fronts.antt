-- A table whose first entries were lent and came back as another list.
use Rattle.std.proofs.Common.{◌≡◌, ℕ, ◌≤◌, List, ◌++◌, length, take, drop, ◌∙◌}
use Rattle.std.proofs.lemmas.List.{length-take-le, take_at}

pub front_take : (table after : List ℕ) (n : ℕ) → n ≤ length table → length after ≡ length (take n table) → take n (after ++ drop n table) ≡ after
front_take table after n h e = take_at after _ n (e ∙ length-take-le n table h)
