-- Worked examples: types in their order with their links, their chains by chain order, and those chains joined.
use Rattle.std.specs.Prelude.{◌≡◌, ℕ, List, [], ◌∷◌, map}
use Rattle.descent.specs.declared.link.Link.{Link}
use Rattle.descent.specs.Links.{link}
use Rattle.chains.specs.ChainOrder.{chain_order}
use Rattle.chains.specs.Joining.{joined}
use Rattle.chains.specs.Places.{Places, places}

pub record Example : Type 0 where
  pub types : ℕ
  pub links : List Link
  pub order : List ℕ
  pub chains : Places
  pub joins : Places

abbrev example : ℕ → List Link → List ℕ → Places → Places → Example
example types links order chains joins = record { types = types; links = links; order = order; chains = chains; joins = joins }

abbrev pub examples : List Example
examples =
    -- no types; one type
    example 0 [] [] (places 0 [] []) (places 0 [] [])
    ∷ example 1 [] (0 ∷ []) (places 1 (0 ∷ []) (0 ∷ [])) (places 1 (0 ∷ []) (0 ∷ []))
    -- 0 below 1 and 2, and 1 and 3 below 2: the chains 0 1 2 and 3, which do not join
    ∷ example 4 (link 0 1 ∷ link 0 2 ∷ link 1 2 ∷ link 3 2 ∷ []) (0 ∷ 1 ∷ 3 ∷ 2 ∷ [])
    (places 2 (0 ∷ 0 ∷ 0 ∷ 1 ∷ []) (0 ∷ 1 ∷ 2 ∷ 0 ∷ [])) (places 2 (0 ∷ 0 ∷ 0 ∷ 1 ∷ []) (0 ∷ 1 ∷ 2 ∷ 0 ∷ []))
    -- X 0 and Y 2 below M 1, M below P 3 and Q 4: the chains X M P, Y and Q; joined, X M P and Y Q
    ∷ example 5 (link 0 1 ∷ link 2 1 ∷ link 1 3 ∷ link 1 4 ∷ []) (0 ∷ 2 ∷ 1 ∷ 3 ∷ 4 ∷ [])
    (places 3 (0 ∷ 0 ∷ 1 ∷ 0 ∷ 2 ∷ []) (0 ∷ 1 ∷ 0 ∷ 2 ∷ 0 ∷ [])) (places 2 (0 ∷ 0 ∷ 1 ∷ 0 ∷ 1 ∷ []) (0 ∷ 1 ∷ 0 ∷ 2 ∷ 1 ∷ []))
    ∷ []

-- chains that joining is given, and what it makes of them
pub record Joint : Type 0 where
  pub types : ℕ
  pub links : List Link
  pub before : Places
  pub after : Places

abbrev joint : ℕ → List Link → Places → Places → Joint
joint types links before after = record { types = types; links = links; before = before; after = after }

-- each type is a chain of its own, but for the order of the numbers
abbrev pub joints : List Joint
joints =
    -- 2 below 1 and 1 below 0: chain 0 goes on the end of chain 1, and that on the end of chain 2
    joint 3 (link 2 1 ∷ link 1 0 ∷ []) (places 3 (0 ∷ 1 ∷ 2 ∷ []) (0 ∷ 0 ∷ 0 ∷ [])) (places 1 (0 ∷ 0 ∷ 0 ∷ []) (2 ∷ 1 ∷ 0 ∷ []))
    -- 0 and 1 below 2: the lower-numbered takes it
    ∷ joint 3 (link 1 2 ∷ link 0 2 ∷ []) (places 3 (0 ∷ 1 ∷ 2 ∷ []) (0 ∷ 0 ∷ 0 ∷ [])) (places 2 (0 ∷ 1 ∷ 0 ∷ []) (0 ∷ 0 ∷ 1 ∷ []))
    -- 0 below 1: chain 2 becomes chain 1
    ∷ joint 3 (link 0 1 ∷ []) (places 3 (0 ∷ 1 ∷ 2 ∷ []) (0 ∷ 0 ∷ 0 ∷ [])) (places 2 (0 ∷ 0 ∷ 1 ∷ []) (0 ∷ 1 ∷ 0 ∷ []))
    -- 0 below 1 and 1 below 2, which is chain 1: it goes on the end of chain 0 by a path of two links, and 1 stays alone
    ∷ joint 3 (link 0 1 ∷ link 1 2 ∷ []) (places 3 (0 ∷ 2 ∷ 1 ∷ []) (0 ∷ 0 ∷ 0 ∷ [])) (places 2 (0 ∷ 1 ∷ 0 ∷ []) (0 ∷ 0 ∷ 1 ∷ []))
    ∷ []

-- the chains of each example are those that it states
abbrev pub ChainsWorked : Type 0
ChainsWorked = map (λ e. chain_order e.types e.links e.order) examples ≡ map (λ e. e.chains) examples

-- and so are its joined chains
abbrev pub JoinsWorked : Type 0
JoinsWorked = map (λ e. joined e.types e.links e.chains) examples ≡ map (λ e. e.joins) examples

abbrev pub JointsWorked : Type 0
JointsWorked = map (λ e. joined e.types e.links e.before) joints ≡ map (λ e. e.after) joints
