-- Worked inputs, with what the program answers.
use Rattle.std.specs.Prelude.{◌≡◌, [], codes}
use Rattle.program.specs.Program.{shown_report, placeless, program_bytes}

abbrev pub Worked : Type 0
Worked =
    (program_bytes [] ≡ [])
    × (program_bytes (codes "Cat < Pet, Animal\nPet < Animal\nDog < Animal\n") ≡ codes "Cat\nPet\nAnimal\nDog\nCat < Pet\nPet < Animal\nDog < Animal\n")
    -- a line stops where a base should stand
    × (program_bytes (codes "A\nA < \n") ≡ shown_report (record { number = 5; text = 2; line = 2; column = 5 }))
    -- a loop
    × (program_bytes (codes "A < B\nB < A\n") ≡ shown_report (placeless 10))
