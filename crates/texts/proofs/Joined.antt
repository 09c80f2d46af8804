-- The lines of a text, joined again.
use Rattle.std.proofs.Common.{◌≡◌, ℕ, Bool, true, false, cond, List, [], ◌∷◌, refl, arith}
use Rattle.std.specs.List.{onto_first}
use Rattle.std.proofs.lemmas.List.Splits.{join_with_byte-slice_split, length-slice_split}
use Rattle.texts.specs.Splitting.{is_byte}
use Rattle.texts.specs.Texts.{newline, lines_of}
use Rattle.texts.specs.Joined.{NoNewlines, LinesMakeTheText}

-- a byte before the first line
longer : (b : ℕ) (ls : List (List ℕ)) → is_byte newline b ≡ false → NoNewlines ls → NoNewlines (onto_first b ls)
longer b [] e n = (grind arith, tt)
longer b (l ∷ ls) e n = (grind (arith, n.0), n.1)

by_byte : (b : ℕ) (ls : List (List ℕ)) (x : Bool) → is_byte newline b ≡ x → NoNewlines ls → NoNewlines (cond x ([] ∷ ls) (onto_first b ls))
by_byte b ls true e n = (refl, n)
by_byte b ls false e n = longer b ls e n

none : (text : List ℕ) → NoNewlines (lines_of text)
none [] = (refl, tt)
none (b ∷ bs) = by_byte b (lines_of bs) (is_byte newline b) refl (none bs)

pub lines_make_the_text : LinesMakeTheText
lines_make_the_text text = (join_with_byte-slice_split newline text, none text, length-slice_split (is_byte newline) text)
