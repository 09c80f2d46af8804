-- What a decomposer means, and that chain order and joining have that meaning.
use Rattle.std.specs.Prelude.{◌≡◌, ℕ, ◌≤◌, List}
use Rattle.descent.specs.declared.link.Link.{Link}
use Rattle.chains.specs.Chains.{Chained}
use Rattle.chains.specs.ChainOrder.{chain_order}
use Rattle.chains.specs.Joining.{joined}
use Rattle.chains.specs.Places.{Places, places}
use Rattle.chains.specs.Ranked.{Ranked}

-- whatever it gives for ranked types lays them out in chains
abbrev pub Decomposes : (ℕ → List Link → List ℕ → List ℕ → List ℕ → ℕ → Type 0) → Type 0
Decomposes Gives =
    (n : ℕ) (links : List Link) (order rank chains positions : List ℕ) (count : ℕ) →
    n ≤ 1024 → Ranked n links order rank → Gives n links order chains positions count → Chained n links chains positions count

-- what chain order gives
abbrev pub ByChainOrder : ℕ → List Link → List ℕ → List ℕ → List ℕ → ℕ → Type 0
ByChainOrder n links order chains positions count = places count chains positions ≡ chain_order n links order

abbrev pub ChainOrderDecomposes : Type 0
ChainOrderDecomposes = Decomposes ByChainOrder

-- what joining gives over a decomposer: it gave some chains, and these are those joined
abbrev pub JoinedFrom : (ℕ → List Link → List ℕ → List ℕ → List ℕ → ℕ → Type 0) → ℕ → List Link → List ℕ → List ℕ → List ℕ → ℕ → Type 0
JoinedFrom Gives n links order chains positions count =
    (before : Places) × Gives n links order before.chains before.positions before.count × (places count chains positions ≡ joined n links before)

abbrev pub JoiningDecomposes : {S : Type 0} → (S → ℕ → List Link → List ℕ → List ℕ → List ℕ → ℕ → Type 0) → Type 0
JoiningDecomposes {S} gives = (d : S) → Decomposes (JoinedFrom (gives d))

-- joining over chain order leaves nothing free
abbrev pub JoinedChainOrder : Type 0
JoinedChainOrder =
    (n : ℕ) (links : List Link) (order chains positions : List ℕ) (count : ℕ) →
    JoinedFrom ByChainOrder n links order chains positions count → places count chains positions ≡ joined n links (chain_order n links order)
