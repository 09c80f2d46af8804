-- The lines of a text, one after another.
use Rattle.std.specs.Prelude.{◌≡◌, ℕ, List, [], ◌∷◌, Some, None, Option}
use Rattle.texts.specs.Texts.{lines_of}

-- the lines of what is left of a text
abbrev pub lines_left : Option (List ℕ) → List (List ℕ)
lines_left None = []
lines_left (Some text) = lines_of text

-- one step through the lines: the next one, or none where none is left
abbrev pub Steps : Option (List ℕ) → Option (List ℕ) → Option (List ℕ) → Type 0
Steps left None after = lines_left left ≡ []
Steps left (Some line) after = lines_left left ≡ line ∷ lines_left after
