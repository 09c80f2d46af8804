-- What the order means, in the subject's own words.
use Rattle.std.specs.Prelude.{◌≡◌, ℕ, ◌<◌, List, length, slice_index}
use Rattle.descent.specs.declared.link.Link.{Link}
use Rattle.descent.specs.Links.{Linked, Within}
use Rattle.descent.specs.Loops.{Loop, LoopFree, Rising}
use Rattle.order.specs.Order.{order_of}
use Rattle.order.specs.Ranks.{rank_of}

-- where a type has a place in the order, each type linked to it has an earlier one
abbrev pub Rises : List Link → List ℕ → Type 0
Rises links order = (a b i : ℕ) → Linked links a b → i < length order → slice_index order i ≡ b → (j : ℕ) × (j < i) × (slice_index order j ≡ a)

-- ranks rise along each link to a ranked type; where each type is ranked, along each link
pub record RanksRise : Type 0 where
  pub ranked : (n : ℕ) (links : List Link) → Rises links (order_of n links)
  pub whole : (n : ℕ) (links : List Link) → Within links n → length (order_of n links) ≡ n → Rising links (rank_of (order_of n links))

-- types are left unranked exactly where there is a loop
pub record UnrankedWhereLoop : Type 0 where
  pub unranked_loop : (n : ℕ) (links : List Link) → Within links n → length (order_of n links) < n → (types : List ℕ) × Loop links types
  pub loop_unranked : (n : ℕ) (links : List Link) → Within links n → (types : List ℕ) → Loop links types → length (order_of n links) < n
  pub whole_loop_free : (n : ℕ) (links : List Link) → Within links n → length (order_of n links) ≡ n → LoopFree links

-- where as many types as there are have a place, each stands at just one place, and nothing else stands there
pub record Once (n : ℕ) (order : List ℕ) : Type 0 where
  pub types : (i : ℕ) → i < length order → slice_index order i < n
  pub place : (t : ℕ) → t < n → (i : ℕ) × (i < length order) × (slice_index order i ≡ t)
  pub only : (i j : ℕ) → i < length order → j < length order → slice_index order i ≡ slice_index order j → i ≡ j

abbrev pub EachTypeOnce : Type 0
EachTypeOnce = (n : ℕ) (links : List Link) → length (order_of n links) ≡ n → Once n (order_of n links)
