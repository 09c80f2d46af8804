-- The rank of a type: its place in the order.
use Rattle.std.specs.Prelude.{ℕ, ◌+◌, cond, List, [], ◌∷◌, map, ◌==◌}
use Rattle.std.specs.List.{range_with_len}
use Rattle.descent.specs.declared.link.Link.{Link}
use Rattle.order.specs.Order.{order_of}

-- what stands for the rank of a type that has none
abbrev pub no_rank : ℕ
no_rank = 65535

-- the place of t in the order, whose first place has the number r
abbrev pub rank_from : ℕ → List ℕ → ℕ → ℕ
rank_from r [] t = no_rank
rank_from r (x ∷ order) t = cond (x == t) r (rank_from (r + 1) order t)

-- the rank of t in the order
abbrev pub rank_of : List ℕ → ℕ → ℕ
rank_of order t = rank_from 0 order t

-- the ranks of the types below n
abbrev pub ranks_of : ℕ → List Link → List ℕ
ranks_of n links = map (rank_of (order_of n links)) (range_with_len 0 n)
