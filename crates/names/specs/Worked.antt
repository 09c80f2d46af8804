-- Worked: Cat, Pet, Animal and Cat again are entered into tables of several lengths.
use Rattle.std.specs.Prelude.{◌≡◌, ℕ, List, [], ◌∷◌, ◌++◌, replicate, Some, None, Ok, Err, codes, Result}
use Rattle.names.specs.declared.refusal.Entry.{Entry}
use Rattle.names.specs.declared.refusal.Entry.TheVariants.{Known, New}
use Rattle.names.specs.declared.refusal.Refusal.{Refusal}
use Rattle.names.specs.declared.refusal.Refusal.TheVariants.{NoTypePlace, NoBytePlace}
use Rattle.names.specs.Refusals.{number_of}
use Rattle.names.specs.Tables.{span, pool_of, spans_of}
use Rattle.names.specs.Finding.{name_of, number_in}
use Rattle.names.specs.Entering.{place_answer, enter_answer, names_after, back_answer, names_left}
use Rattle.names.specs.Facts.{entered_all}

-- the answers to the names, entered in turn
abbrev pub answers_to : ℕ → ℕ → List (List ℕ) → List (List ℕ) → List (Result Entry Refusal)
answers_to size places names [] = []
answers_to size places names (bytes ∷ more) =
    enter_answer size places names bytes ∷ answers_to size places (names_after names bytes (enter_answer size places names bytes)) more

abbrev pub animals : List (List ℕ)
animals = codes "Cat" ∷ codes "Pet" ∷ codes "Animal" ∷ codes "Cat" ∷ []

abbrev pub Worked : Type 0
Worked =
    -- 16 bytes and 4 entries: numbers 0, 1, 2 and 0 again, and the tables
    (answers_to 16 4 [] animals ≡ Ok (New 0) ∷ Ok (New 1) ∷ Ok (New 2) ∷ Ok (Known 0) ∷ [])
    × (pool_of (entered_all 16 4 [] animals) 16 ≡ codes "CatPetAnimal" ++ (0 ∷ 0 ∷ 0 ∷ 0 ∷ []))
    × (spans_of (entered_all 16 4 [] animals) 4 ≡ span 0 3 ∷ span 3 3 ∷ span 6 6 ∷ span 0 0 ∷ [])
    × (name_of (entered_all 16 4 [] animals) 1 ≡ Some (codes "Pet"))
    × (name_of (entered_all 16 4 [] animals) 3 ≡ None)
    × (number_in (entered_all 16 4 [] animals) (codes "Animal") ≡ Some 2)
    × (number_in (entered_all 16 4 [] animals) (codes "Ani") ≡ None)
    -- all but Cat are taken back; four types cannot be left of three
    × (back_answer (entered_all 16 4 [] animals) 1 ≡ Ok tt)
    × (pool_of (names_left (entered_all 16 4 [] animals) 1 (Ok tt)) 16 ≡ codes "Cat" ++ replicate 13 0)
    × (spans_of (names_left (entered_all 16 4 [] animals) 1 (Ok tt)) 4 ≡ span 0 3 ∷ span 0 0 ∷ span 0 0 ∷ span 0 0 ∷ [])
    × (back_answer (entered_all 16 4 [] animals) 4 ≡ Err (record { left = 4; types = 3 }))
    -- 12 bytes and 3 entries are enough
    × (answers_to 12 3 [] animals ≡ Ok (New 0) ∷ Ok (New 1) ∷ Ok (New 2) ∷ Ok (Known 0) ∷ [])
    -- the pool one byte short, the name table one entry short, and both
    × (answers_to 11 3 [] animals ≡ Ok (New 0) ∷ Ok (New 1) ∷ Err NoBytePlace ∷ Ok (Known 0) ∷ [])
    × (answers_to 12 2 [] animals ≡ Ok (New 0) ∷ Ok (New 1) ∷ Err NoTypePlace ∷ Ok (Known 0) ∷ [])
    × (answers_to 11 2 [] animals ≡ Ok (New 0) ∷ Ok (New 1) ∷ Err NoTypePlace ∷ Ok (Known 0) ∷ [])
    × (number_of NoTypePlace ≡ 6)
    × (number_of NoBytePlace ≡ 7)
    -- tables of length 0
    × (answers_to 0 0 [] animals ≡ Err NoTypePlace ∷ Err NoTypePlace ∷ Err NoTypePlace ∷ Err NoTypePlace ∷ [])
    -- at most 1,024 types and 65,536 bytes, however long the tables are
    × (place_answer 70000 2000 (replicate 1023 []) 0 ≡ Ok tt)
    × (place_answer 70000 2000 (replicate 1024 []) 0 ≡ Err NoTypePlace)
    × (place_answer 70000 2000 [] 65536 ≡ Ok tt)
    × (place_answer 70000 2000 [] 65537 ≡ Err NoBytePlace)
