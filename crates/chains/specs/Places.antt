-- Where types stand: how many chains there are, and the chain and the position of each type.
use Rattle.std.specs.Prelude.{ℕ, List}

pub record Places : Type 0 where
  pub count : ℕ
  pub chains : List ℕ
  pub positions : List ℕ

abbrev pub places : ℕ → List ℕ → List ℕ → Places
places count chains positions = record { count = count; chains = chains; positions = positions }
