-- Going down from a type to a subtype, step by step.
use Rattle.std.specs.Prelude.{◌≡◌, ℕ, zero, suc, ◌<◌, Bool, ◌&&◌, List, ◌==◌, ◌≢◌, slice_index, find, Option, option_map}
use Rattle.std.specs.Option.{unwrap_or}
use Rattle.descent.specs.declared.link.Link.{Link}
use Rattle.order.specs.Ranks.{no_rank}

-- whether the rank table has no rank for t
abbrev pub unranked : List ℕ → ℕ → Bool
unranked rank t = slice_index rank t == no_rank

-- the subtype of t by the first link to it from a type that passes the test
abbrev pub subtype : List Link → (ℕ → Bool) → ℕ → Option ℕ
subtype links test t = option_map (λ l. l.from) (find (λ l. (l.to == t) && test l.from) links)

-- the same, or t itself where there is none
abbrev pub down : List Link → (ℕ → Bool) → ℕ → ℕ
down links test t = unwrap_or (subtype links test t) t

-- where one stands after some steps from t
abbrev pub walked : (ℕ → ℕ) → ℕ → ℕ → ℕ
walked step t zero = t
walked step t (suc i) = step (walked step t i)

-- after this many steps, and not before, one stands at t again
pub record Round (step : ℕ → ℕ) (t : ℕ) (steps : ℕ) : Type 0 where
  pub some : 0 < steps
  pub back : walked step t steps ≡ t
  pub first : (j : ℕ) → 0 < j → j < steps → walked step t j ≢ t
