-- Joining: in ascending number, each chain is put on the end of the lowest-numbered other standing chain whose last type has a path to its first type, if any; it then no longer stands. Standing chains are renumbered from 0 in their old sequence.
use Rattle.std.specs.Prelude.{ℕ, zero, suc, ◌+◌, Bool, false, cond, not, ◌&&◌, ◌||◌, List, map, Some, None, Option, ◌==◌, nat_le, slice_index}
use Rattle.std.specs.List.{range_with_len}
use Rattle.descent.specs.declared.link.Link.{Link}
use Rattle.descent.specs.Computed.{descends, every}
use Rattle.order.specs.Order.{lowest}
use Rattle.chains.specs.Counting.{some, passing}
use Rattle.chains.specs.Places.{Places, places}

abbrev pub chain_of : Places → ℕ → ℕ
chain_of s t = slice_index s.chains t

abbrev pub position_of : Places → ℕ → ℕ
position_of s t = slice_index s.positions t

-- whether the type t is on chain c
abbrev pub on : Places → ℕ → ℕ → Bool
on s c t = chain_of s t == c

-- the first type on chain c: the one at position 0
abbrev pub first_type : ℕ → Places → ℕ → Option ℕ
first_type n s c = lowest (λ t. on s c t && position_of s t == 0) 0 n

-- the last type on chain c: no type on c has a higher position
abbrev pub last_type : ℕ → Places → ℕ → Option ℕ
last_type n s c = lowest (λ t. on s c t && every n (λ u. not (on s c u) || nat_le (position_of s u) (position_of s t))) 0 n

-- whether there is a path from the one type to the other, which are different
abbrev pub leads : List Link → Option ℕ → Option ℕ → Bool
leads links None b = false
leads links (Some a) None = false
leads links (Some a) (Some b) = descends links a b

-- whether chain d is another chain than c that stands, and its last type has a path to the first type on c
abbrev pub takes : ℕ → List Link → Places → ℕ → ℕ → Bool
takes n links s c d = not (d == c) && leads links (last_type n s d) (first_type n s c)

-- chain c put behind the type u, where there is one: its types are then on u's chain, at the positions after u's
abbrev pub put_behind : ℕ → Places → ℕ → Option ℕ → Places
put_behind n s c None = s
put_behind n s c (Some u) =
    places s.count
    (map (λ t. cond (on s c t) (chain_of s u) (chain_of s t)) (range_with_len 0 n))
    (map (λ t. cond (on s c t) (position_of s u + 1 + position_of s t) (position_of s t)) (range_with_len 0 n))

-- chain c put on the end of chain d, where there is one
abbrev pub put_on_end : ℕ → Places → ℕ → Option ℕ → Places
put_on_end n s c None = s
put_on_end n s c (Some d) = put_behind n s c (last_type n s d)

-- the turn of chain c
abbrev pub turn : ℕ → List Link → Places → ℕ → Places
turn n links s c = put_on_end n s c (lowest (takes n links s c) 0 s.count)

-- the turns of the m chains from c on
abbrev pub turns : ℕ → List Link → Places → ℕ → ℕ → Places
turns n links s c zero = s
turns n links s c (suc m) = turns n links (turn n links s c) (c + 1) m

-- whether chain c stands: some type is on it
abbrev pub stands : ℕ → Places → ℕ → Bool
stands n s c = some n (on s c)

-- the standing chains only: a chain's new number is how many of those before it stand
abbrev pub renumbered : ℕ → Places → Places
renumbered n s = places (passing s.count (stands n s)) (map (λ t. passing (chain_of s t) (stands n s)) (range_with_len 0 n)) s.positions

-- the chains joined
abbrev pub joined : ℕ → List Link → Places → Places
joined n links s = renumbered n (turns n links s 0 s.count)
