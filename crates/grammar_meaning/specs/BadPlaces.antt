-- The bad place of a line, and the rule that it breaks there.
use Rattle.std.specs.Prelude.{◌≡◌, ℕ, ◌+◌, ◌<◌, false, ◌⊎◌, List, [], ◌∷◌, ◌++◌, length, ◌≢◌}
use Rattle.grammar.specs.declared.fault.Rule.{Rule}
use Rattle.grammar.specs.declared.fault.Rule.TheVariants.{Printable, Brackets, Length, Grammar}
use Rattle.grammar.specs.declared.fault.Fault.{Fault}
use Rattle.grammar.specs.Bytes.{printable, space, hash, comma, less, opening, closing}
use Rattle.grammar.specs.Grammar.{Named, Name, Line}
use Rattle.grammar_meaning.specs.Limits.{count}

-- some continuation makes a line of it, the limits set aside
abbrev pub Viable : List ℕ → Type 0
Viable front = (rest : List ℕ) × (names : List Named) × Line (front ++ rest) names

-- what may stand before an outermost name
pub data Before : List ℕ → Type 0 where
  line_start : Before []
  sign : {n : List ℕ} → Name n → Before (n ++ (space ∷ less ∷ space ∷ []))
  next : {front n : List ℕ} → Before front → (front ≢ []) → Name n → Before (front ++ (n ++ (comma ∷ space ∷ [])))

-- it is no comment
abbrev pub Declares : List ℕ → Type 0
Declares [] = Unit {0}
Declares (b ∷ bs) = b ≡ hash → ⊥

-- the last byte opens a ninth bracket, as the grammar admits
abbrev pub NinthOpen : List ℕ → Type 0
NinthOpen front = Viable front × Declares front × (count opening front ≡ count closing front + 9)

-- the last byte is the 65th of an outermost name
pub record SixtyFifth (front : List ℕ) : Type 0 where
  pub before : List ℕ
  pub part : List ℕ
  pub rest : List ℕ
  pub splits : front ≡ before ++ part
  pub place : Before before
  pub name : Name (part ++ rest)
  pub long : length part ≡ 65

-- the last byte cannot be made right, or passes a limit
abbrev pub Bad : List ℕ → Type 0
Bad front = (Viable front → ⊥) ⊎ (NinthOpen front ⊎ SixtyFifth front)

-- after a front that is not bad, the next byte is; or the line stops too soon
abbrev pub GoesWrong : List ℕ → List ℕ → Type 0
GoesWrong front [] = (names : List Named) → Line front names → ⊥
GoesWrong front (b ∷ rest) = Bad (front ++ (b ∷ []))

-- what each rule asks where the line goes wrong after a front, before the rest: a no breaks it
abbrev pub Unprintable : List ℕ → Type 0
Unprintable [] = ⊥
Unprintable (b ∷ rest) = printable b ≡ false

abbrev pub Unbalanced : List ℕ → List ℕ → Type 0
Unbalanced front [] = count closing front < count opening front
Unbalanced front (b ∷ rest) = NinthOpen (front ++ (b ∷ [])) ⊎ ((b ≡ closing) × (count opening front ≡ count closing front))

abbrev pub Overlong : List ℕ → List ℕ → Type 0
Overlong front [] = ⊥
Overlong front (b ∷ rest) = SixtyFifth (front ++ (b ∷ []))

-- the first rule that is broken
abbrev pub Breaks : Rule → List ℕ → List ℕ → Type 0
Breaks Printable front rest = Unprintable rest
Breaks Brackets front rest = (Unprintable rest → ⊥) × Unbalanced front rest
Breaks Length front rest = (Unprintable rest → ⊥) × (Unbalanced front rest → ⊥) × Overlong front rest
Breaks Grammar front rest = (Unprintable rest → ⊥) × (Unbalanced front rest → ⊥) × (Overlong front rest → ⊥)

-- the first place where the line goes wrong, and the rule that is broken there
pub record BadPlace (line : List ℕ) (fault : Fault) : Type 0 where
  pub front : List ℕ
  pub rest : List ℕ
  pub splits : line ≡ front ++ rest
  pub column : fault.column ≡ length front + 1
  pub first : (head tail : List ℕ) → front ≡ head ++ tail → Bad head → ⊥
  pub wrong : GoesWrong front rest
  pub rule : Breaks fault.rule front rest
