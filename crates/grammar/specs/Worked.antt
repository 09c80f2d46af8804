-- Worked lines, each with its outcome.
use Rattle.std.specs.Prelude.{◌≡◌, ℕ, zero, suc, List, [], ◌∷◌, ◌++◌, map, codes}
use Prim.Native.String.{String}
use Rattle.grammar.specs.declared.fault.Rule.TheVariants.{Printable, Brackets, Length, Grammar}
use Rattle.grammar.specs.Grammar.{Named, named}
use Rattle.grammar.specs.Reading.{Outcome, lawful, fault, reading}

abbrev pub at : ℕ → String → Named
at c n = named c (codes n)

-- a list n times over
abbrev pub times : ℕ → List ℕ → List ℕ
times zero xs = []
times (suc n) xs = xs ++ times n xs

abbrev pub nested : ℕ → List ℕ
nested n = times n (codes "a[") ++ (codes "a" ++ times n (codes "]"))

abbrev pub worked : List (List ℕ × Outcome)
worked =
    (codes "", lawful [])
    ∷ (codes "#", lawful [])
    ∷ (codes "# [Note] ]]]", lawful [])
    ∷ (codes "_a9", lawful (at 1 "_a9" ∷ []))
    ∷ (codes "Cat < Pet, Animal", lawful (at 1 "Cat" ∷ at 7 "Pet" ∷ at 12 "Animal" ∷ []))
    ∷ (codes "Map[Str,List[Int]] < Any", lawful (at 1 "Map[Str,List[Int]]" ∷ at 22 "Any" ∷ []))
    ∷ (codes "A[B", fault Brackets 4)
    ∷ (codes "A[]", fault Grammar 3)
    ∷ (codes "A[B]]", fault Brackets 5)
    ∷ (codes "]", fault Brackets 1)
    ∷ (times 9 (codes "a["), fault Brackets 18)
    ∷ (nested 8, lawful (named 1 (nested 8) ∷ []))
    ∷ (codes "A[B]C", fault Grammar 5)
    ∷ (codes "A[B, C]", fault Grammar 5)
    ∷ (codes "9A", fault Grammar 1)
    ∷ (codes " A", fault Grammar 1)
    ∷ (codes "A ", fault Grammar 3)
    ∷ (codes "A < ", fault Grammar 5)
    ∷ (codes "A <B", fault Grammar 4)
    ∷ (codes "A < B,C", fault Grammar 7)
    ∷ (codes "A < B, ", fault Grammar 8)
    ∷ (codes "A < B]", fault Brackets 6)
    ∷ (codes "A" ++ (9 ∷ []), fault Printable 2)
    ∷ (codes "A[" ++ (127 ∷ []), fault Printable 3)
    ∷ (codes "#" ++ (31 ∷ []), fault Printable 2)
    ∷ (times 64 (codes "a"), lawful (named 1 (times 64 (codes "a")) ∷ []))
    ∷ (times 65 (codes "a"), fault Length 65)
    ∷ (codes "A < " ++ (times 32 (codes "a") ++ (codes "[" ++ times 32 (codes "b"))), fault Length 69)
    ∷ []

abbrev pub WorkedLines : Type 0
WorkedLines = map (λ w. reading w.0) worked ≡ map (λ w. w.1) worked
