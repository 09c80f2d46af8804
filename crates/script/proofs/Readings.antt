-- The lines of a script.
use Rattle.std.proofs.Common.{◌≡◌, ℕ, List, [], length, ap, arith}
use Rattle.std.proofs.lemmas.List.Splits.{length-slice_split}
use Rattle.texts.specs.Splitting.{is_byte}
use Rattle.texts.specs.Texts.{newline, lines_of}

-- each text has a line
pub lines_some : (text : List ℕ) → lines_of text ≡ [] → ⊥
lines_some text e = let n : length (lines_of text) ≡ 0 = ap length e in omega (arith, n, length-slice_split (is_byte newline) text)
