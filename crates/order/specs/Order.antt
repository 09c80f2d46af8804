-- The order of types: of the unranked types whose subtypes are all ranked, the lowest-numbered gets the next rank.
use Rattle.std.specs.Prelude.{ℕ, zero, suc, Bool, not, ◌&&◌, ◌||◌, List, [], ◌∷◌, ◌++◌, Some, None, Option, ◌==◌}
use Rattle.std.specs.List.{list_any, list_all}
use Rattle.descent.specs.declared.link.Link.{Link}
pub use Rattle.descent.specs.Computed.{lowest}

-- whether t is one of the types ranked so far
abbrev pub ranked : List ℕ → ℕ → Bool
ranked done t = list_any (λ x. x == t) done

-- whether each subtype of t, that is each type linked to it, is ranked
abbrev pub subtypes_ranked : List Link → List ℕ → ℕ → Bool
subtypes_ranked links done t = list_all (λ l. not (l.to == t) || ranked done l.from) links

-- whether t is unranked and its subtypes are all ranked
abbrev pub ready : List Link → List ℕ → ℕ → Bool
ready links done t = not (ranked done t) && subtypes_ranked links done t

-- the list, and at its end the next type where there is one
abbrev pub grown : List ℕ → Option ℕ → List ℕ
grown done None = done
grown done (Some t) = done ++ (t ∷ [])

-- the list, and at its end up to m types more, each the lowest that is ready then
abbrev pub extended : ℕ → List Link → List ℕ → ℕ → List ℕ
extended n links done zero = done
extended n links done (suc m) = extended n links (grown done (lowest (ready links done) 0 n)) m

-- the types below n in the order of their ranks: the type of rank r stands at place r
abbrev pub order_of : ℕ → List Link → List ℕ
order_of n links = extended n links [] n
