-- The first line of a text, and the lines after it.
use Rattle.std.proofs.Common.{◌≡◌, ℕ, ◌+◌, ◌≤◌, Bool, true, false, cond, nat_lt, List, [], ◌∷◌, length, Some, None, Option, sym, refl, ap, ap₂, ◌∙◌, arith}
use Rattle.std.specs.List.{after_first, position_or_len}
use Rattle.std.proofs.lemmas.List.{take_all}
use Rattle.std.proofs.lemmas.List.Sums.{fails_before_first, count_by-le-length}
use Rattle.std.proofs.lemmas.List.Splits.{slice_split_first, slice_split_none, length-slice_split}
use Rattle.std.specs.Borrow.{Bor}
use Rattle.std.specs.Option.{option_map}
use Rattle.std.proofs.lemmas.Iterator.{YieldsList}
use Rattle.std.proofs.lemmas.Iterator.Consumers.{YieldsList-from_shown}
use Rattle.texts.specs.declared.text.Lines.{Lines}
use Rattle.texts.specs.Splitting.{is_byte, before_byte, after_byte}
use Rattle.texts.specs.Texts.{newline, lines_of}
use Rattle.texts.specs.Lines.{lines_left, Steps}

-- the first line, and the lines after it
by_place : (t : List ℕ) (x : Bool) → nat_lt (position_or_len (is_byte newline) t) (length t) ≡ x
    → lines_of t ≡ before_byte newline t ∷ lines_left (cond x (Some (after_first (is_byte newline) t)) None)
by_place t true e = slice_split_first (is_byte newline) t 0 (grind arith)
by_place t false e =
    let last : length t ≤ position_or_len (is_byte newline) t = grind arith in
    slice_split_none (is_byte newline) t (λ k d h. fails_before_first (is_byte newline) t k d (omega arith)) ∙ ap (λ l. l ∷ []) (sym (take_all (position_or_len (is_byte newline) t) t last))

pub lines_cut : (t : List ℕ) → lines_of t ≡ before_byte newline t ∷ lines_left (after_byte newline t)
lines_cut t = by_place t (nat_lt (position_or_len (is_byte newline) t) (length t)) refl

-- one step through the lines that are left
pub lines_step : (left after : Option (List ℕ)) (text line : List ℕ) → left ≡ Some text → line ≡ before_byte newline text → after ≡ after_byte newline text → lines_left left ≡ line ∷ lines_left after
lines_step left after text line e f g = ap lines_left e ∙ lines_cut text ∙ ap₂ (λ l r. l ∷ lines_left r) (sym f) (sym g)

-- a text has at most one line more than bytes
pub lines_count : (t : List ℕ) → length (lines_of t) ≤ length t + 1
lines_count t = omega (arith, length-slice_split (is_byte newline) t, count_by-le-length (is_byte newline) t)

-- the lines that are left, as the list that is gone through
pub lines_road : (s : Lines) → YieldsList (λ s r t. Steps (option_map (λ x. x.now) s.rest) (option_map (λ x. x.now) r) (option_map (λ x. x.now) t.rest)) (λ (x : Bor (List ℕ)). x.now) s (lines_left (option_map (λ x. x.now) s.rest))
lines_road s = YieldsList-from_shown _ (λ x. x.now) (λ t. lines_left (option_map (λ x. x.now) t.rest)) (λ a b e. ap length e) (λ a x b e. e) s
