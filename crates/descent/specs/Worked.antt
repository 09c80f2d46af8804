-- Worked: Cat 0, Pet 1, Animal 2 and Dog 3, with the links Cat-Pet, Cat-Animal, Pet-Animal and Dog-Animal.
use Rattle.std.specs.Prelude.{◌≡◌, ℕ, List, [], ◌∷◌, Some, None}
use Rattle.descent.specs.declared.link.Link.{Link}
use Rattle.descent.specs.Computed.{descends, flags, nearest}
use Rattle.descent.specs.Links.{link, Descends}
use Rattle.descent.specs.Nearests.{Nearest}
use Rattle.descent.specs.Trims.{Flagged, ones}

abbrev pub animals : List Link
animals = link 0 1 ∷ link 0 2 ∷ link 1 2 ∷ link 3 2 ∷ []

-- trim keeps three links, and not Cat-Animal
abbrev pub animal_flags : List ℕ
animal_flags = 1 ∷ 0 ∷ 1 ∷ 1 ∷ []

-- the nearest common base of Cat and Dog is Animal; against the links, Pet and Dog have none
abbrev pub Worked : Type 0
Worked =
    (flags animals (descends animals) ≡ animal_flags)
    × (ones animal_flags ≡ 3)
    × (nearest 4 (descends animals) 0 3 ≡ Some 2)
    × (nearest 4 (λ a b. descends animals b a) 1 3 ≡ None)
    × Flagged animals (Descends animals) 4 animal_flags
    × Nearest 4 (Descends animals) 0 3 (Some 2)
    × Nearest 4 (λ a b. Descends animals b a) 1 3 None
