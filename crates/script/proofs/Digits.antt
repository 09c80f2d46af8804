-- Digits read one after another.
use Rattle.std.proofs.Common.{◌≡◌, ℕ, ◌+◌, ◌<◌, List, [], ◌∷◌, length, get_or, drop, Some, None, refl}
use Rattle.std.proofs.lemmas.List.{at_drop_more}
use Rattle.script.specs.Numbers.{with_digit, with_digits}

pub no_digits : (bs : List ℕ) → with_digits None bs ≡ None
no_digits [] = refl
no_digits (b ∷ bs) = refl

-- one digit more
pub digit_on : (s : List ℕ) (i v : ℕ) → i < length s → with_digits (Some v) (drop i s) ≡ with_digits (with_digit v (get_or s i 0)) (drop (i + 1) s)
digit_on s i v h = at_drop_more (with_digits (Some v)) s i 0 h
