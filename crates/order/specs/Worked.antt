-- Worked examples: types and links, with the order and the ranks that they have.
use Rattle.std.specs.Prelude.{◌≡◌, ℕ, List, [], ◌∷◌, map}
use Rattle.descent.specs.declared.link.Link.{Link}
use Rattle.descent.specs.Links.{link}
use Rattle.descent.specs.Loops.{Loop}
use Rattle.order.specs.Order.{order_of}
use Rattle.order.specs.Ranks.{ranks_of}

pub record Example : Type 0 where
  pub types : ℕ
  pub links : List Link
  pub order : List ℕ
  pub ranks : List ℕ

abbrev example : ℕ → List Link → List ℕ → List ℕ → Example
example types links order ranks = record { types = types; links = links; order = order; ranks = ranks }

abbrev pub examples : List Example
examples =
    -- no types; one type; one type linked to itself
    example 0 [] [] []
    ∷ example 1 [] (0 ∷ []) (0 ∷ [])
    ∷ example 1 (link 0 0 ∷ []) [] (65535 ∷ [])
    -- 0 below 1 and 2, and 1 and 3 below 2
    ∷ example 4 (link 0 1 ∷ link 0 2 ∷ link 1 2 ∷ link 3 2 ∷ []) (0 ∷ 1 ∷ 3 ∷ 2 ∷ []) (0 ∷ 1 ∷ 3 ∷ 2 ∷ [])
    -- X 0 and Y 2 below M 1, M below P 3 and Q 4
    ∷ example 5 (link 0 1 ∷ link 2 1 ∷ link 1 3 ∷ link 1 4 ∷ []) (0 ∷ 2 ∷ 1 ∷ 3 ∷ 4 ∷ []) (0 ∷ 2 ∷ 1 ∷ 3 ∷ 4 ∷ [])
    -- numbered against the links; the same link twice counts as one
    ∷ example 3 (link 2 1 ∷ link 1 0 ∷ []) (2 ∷ 1 ∷ 0 ∷ []) (2 ∷ 1 ∷ 0 ∷ [])
    ∷ example 3 (link 2 0 ∷ link 2 0 ∷ []) (1 ∷ 2 ∷ 0 ∷ []) (2 ∷ 0 ∷ 1 ∷ [])
    -- no links: by number
    ∷ example 3 [] (0 ∷ 1 ∷ 2 ∷ []) (0 ∷ 1 ∷ 2 ∷ [])
    -- 1 and 2 make a loop: they have no rank, and neither has 3 above them
    ∷ example 5 (link 0 1 ∷ link 1 2 ∷ link 2 1 ∷ link 2 3 ∷ []) (0 ∷ 4 ∷ []) (0 ∷ 65535 ∷ 65535 ∷ 65535 ∷ 1 ∷ [])
    ∷ []

-- the order and the ranks of each example are those that it states
abbrev pub OrdersWorked : Type 0
OrdersWorked = map (λ e. order_of e.types e.links) examples ≡ map (λ e. e.order) examples

abbrev pub RanksWorked : Type 0
RanksWorked = map (λ e. ranks_of e.types e.links) examples ≡ map (λ e. e.ranks) examples

-- a link from a type to itself is a loop of one type
abbrev pub SelfLoop : Type 0
SelfLoop = (t : ℕ) → Loop (link t t ∷ []) (t ∷ [])
