-- Worked: Cat 0, Pet 1 and Animal 2, with the links Cat-Animal, Cat-Pet and Pet-Animal in several choices.
use Rattle.std.specs.Prelude.{◌≡◌, ℕ, List, [], ◌∷◌, ◌++◌, Ok, Err, codes}
use Rattle.descent.specs.declared.link.Link.{Link}
use Rattle.descent.specs.Links.{link}
use Rattle.rows.specs.KeptEntries.{marked}
use Rattle.printing.specs.Printed.{printed, print_answer, out_after}

abbrev pub animals : List (List ℕ)
animals = codes "Cat" ∷ codes "Pet" ∷ codes "Animal" ∷ []

abbrev pub animal_links : List Link
animal_links = link 0 2 ∷ link 0 1 ∷ link 1 2 ∷ []

abbrev pub Worked : Type 0
Worked =
    -- all links, the kept ones, and none
    (printed animals animal_links ≡ codes "Cat\nPet\nAnimal\nCat < Pet, Animal\nPet < Animal\n")
    × (printed animals (marked (0 ∷ 1 ∷ 1 ∷ []) animal_links) ≡ codes "Cat\nPet\nAnimal\nCat < Pet\nPet < Animal\n")
    × (printed animals [] ≡ codes "Cat\nPet\nAnimal\n")
    × (printed [] [] ≡ [])
    -- a link that is there twice counts once; a base past the names is none
    × (printed animals (link 1 2 ∷ link 1 2 ∷ link 0 3 ∷ []) ≡ codes "Cat\nPet\nAnimal\nPet < Animal\n")
    -- an entry that is not 1, and a link without an entry
    × (printed animals (marked (2 ∷ 1 ∷ []) animal_links) ≡ codes "Cat\nPet\nAnimal\nCat < Pet\n")
    -- an output of a place more, of the exact length, and of a place less
    × (print_answer (codes "Cat\n") 5 ≡ Ok 4)
    × (out_after (codes "Cat\n") (1 ∷ 2 ∷ 3 ∷ 4 ∷ 5 ∷ []) ≡ codes "Cat\n" ++ (5 ∷ []))
    × (print_answer (codes "Cat\n") 4 ≡ Ok 4)
    × (print_answer (codes "Cat\n") 3 ≡ Err (record { places = 3; needed = 4 }))
    × (out_after (codes "Cat\n") (1 ∷ 2 ∷ 3 ∷ []) ≡ 1 ∷ 2 ∷ 3 ∷ [])
