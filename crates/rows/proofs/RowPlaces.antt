-- The places of rows in the index, and the rows of all types as one list.
use Rattle.std.proofs.Common.{◌≡◌, ℕ, zero, suc, ◌+◌, ◌-◌, ◌*◌, ◌/◌, ◌%◌, ◌<◌, ◌≤◌, List, ◌++◌, length, get_or, take, drop, sym, ap, ◌∙◌, ⊎_elim, suc-mul, mul-zero, zero-mul, arith}
use Rattle.std.specs.List.{range_with_len, flat_map}
use Rattle.std.proofs.lemmas.List.{length-append, get_or_append_left, get_or-append_right, get_or-drop, ext_get_or, get_or-take, length-take-le}
use Rattle.std.proofs.lemmas.Nat.{div-mul-add, mul-le, div-add-mod', div_below, mod_below}
use Rattle.std.proofs.lemmas.List.FromFn.{length-map-range_with_len, get_or-map-range_with_len}
use Rattle.std.proofs.lemmas.Bool.{cases_eq, cases_lt}
use Rattle.descent.specs.declared.link.Link.{Link}
use Rattle.rows.specs.Rows.{entry_of, row_of, rows_of}

-- two rows have no place in common
pub rows_apart : (a b w c d : ℕ) → c < w → d < w → (b ≡ a → ⊥) → b * w + c ≡ a * w + d → ⊥
rows_apart a b w c d h k ne e = ne (sym (div-mul-add b w c h) ∙ ap (λ (x : ℕ). x / w) e ∙ div-mul-add a w d k)

-- a row lies within the table
pub row_fits : (a n w m : ℕ) → a < n → n * w ≤ m → a * w + w ≤ m
row_fits a n w m h k = let e : suc a * w ≤ n * w = mul-le (suc a) w n w (omega arith) (omega arith) in omega (arith, suc-mul a w)

-- each place of the rows is one of a row
pub row_of_place : (n w j : ℕ) → j < n * w → (a : ℕ) × (c : ℕ) × (a < n) × (c < w) × (j ≡ a * w + c)
row_of_place n w j h =
    let some : 0 < w = ⊎_elim (λ (e : w ≡ 0). let z : n * w ≡ 0 = ap (λ (x : ℕ). n * x) e ∙ mul-zero n in omega arith) (λ (ne : w ≡ 0 → ⊥). omega arith) (cases_eq w 0) in
    (j / w, j % w, div_below j w n some h, mod_below j w some, sym (div-add-mod' j w))

module _ (f : ℕ → List ℕ) (w : ℕ) (wide : (a : ℕ) → length (f a) ≡ w) where
  rows_length : (s n : ℕ) → length (flat_map f (range_with_len s n)) ≡ n * w
  rows_length s zero = sym (zero-mul w)
  rows_length s (suc n) = length-append (f s) (flat_map f (range_with_len (s + 1) n)) ∙ omega (arith, wide s, rows_length (s + 1) n, suc-mul n w)

  rows_at : (s n a c : ℕ) → a < n → c < w → get_or (flat_map f (range_with_len s n)) (a * w + c) 0 ≡ get_or (f (s + a)) c 0
  rows_at s zero a c h k = let none : ⊥ = omega arith in absurd none
  rows_at s (suc n) zero c h k =
      let place : 0 * w + c ≡ c = omega (arith, zero-mul w) in
      let start : s ≡ s + 0 = omega arith in
      ap (λ (x : ℕ). get_or (f s ++ flat_map f (range_with_len (s + 1) n)) x 0) place
      ∙ get_or_append_left (f s) (flat_map f (range_with_len (s + 1) n)) 0 c (omega (arith, wide s)) ∙ ap (λ (x : ℕ). get_or (f x) c 0) start
  rows_at s (suc n) (suc a) c h k =
      let place : suc a * w + c - w ≡ a * w + c = omega (arith, suc-mul a w) in
      let start : s + 1 + a ≡ s + suc a = omega arith in
      get_or-append_right (f s) (flat_map f (range_with_len (s + 1) n)) w (suc a * w + c) 0 (wide s) (omega (arith, suc-mul a w))
      ∙ ap (λ (x : ℕ). get_or (flat_map f (range_with_len (s + 1) n)) x 0) place
      ∙ rows_at (s + 1) n a c (omega arith) k ∙ ap (λ (x : ℕ). get_or (f x) c 0) start

module _ (n : ℕ) (links : List Link) (chains positions : List ℕ) (count : ℕ) where
  pub all_rows_length : length (rows_of n links chains positions count) ≡ n * count
  all_rows_length = rows_length (row_of n links chains positions count) count (λ a. length-map-range_with_len (entry_of n links chains positions a) 0 count) 0 n

  pub all_rows_at : (a c : ℕ) → a < n → c < count → get_or (rows_of n links chains positions count) (a * count + c) 0 ≡ entry_of n links chains positions a c
  all_rows_at a c h k =
      let here : 0 + a ≡ a = omega arith in
      rows_at (row_of n links chains positions count) count (λ x. length-map-range_with_len (entry_of n links chains positions x) 0 count) 0 n a c h k
      ∙ ap (λ (x : ℕ). get_or (row_of n links chains positions count x) c 0) here
      ∙ get_or-map-range_with_len (entry_of n links chains positions a) 0 count c c 0 k (omega arith)

  -- a table whose rows are those of the types begins with all rows
  pub all_rows_stand : (index : List ℕ) → n * count ≤ length index → ((a c : ℕ) → a < n → c < count → get_or index (a * count + c) 0 ≡ entry_of n links chains positions a c)
      → take (n * count) index ≡ rows_of n links chains positions count
  all_rows_stand index room rows =
      let size : length (take (n * count) index) ≡ n * count = length-take-le (n * count) index room in
      ext_get_or 0 (take (n * count) index) (rows_of n links chains positions count) (size ∙ sym all_rows_length)
      (λ j h.
      let below : j < n * count = omega arith in
      let at = row_of_place n count j below in
      get_or-take (n * count) index j 0 below
      ∙ ap (λ (x : ℕ). get_or index x 0) at.4 ∙ rows at.0 at.1 at.2 at.3
      ∙ sym (ap (λ (x : ℕ). get_or (rows_of n links chains positions count) x 0) at.4 ∙ all_rows_at at.0 at.1 at.2 at.3))

-- what was outside a part that was lent, and came back as long, is as it was
pub part_outside : (xs part : List ℕ) (s n j : ℕ) → s + n ≤ length xs → length part ≡ n → ((c : ℕ) → c < n → j ≡ s + c → ⊥) → get_or (take s xs ++ (part ++ drop n (drop s xs))) j 0 ≡ get_or xs j 0
part_outside xs part s n j room long out =
    ⊎_elim
    (λ (l : j < s). get_or_append_left (take s xs) (part ++ drop n (drop s xs)) 0 j (omega (arith, length-take-le s xs (omega arith))) ∙ get_or-take s xs j 0 l)
    (λ (ge : s ≤ j).
    let past : n ≤ j - s = ⊎_elim (λ (l : j - s < n). absurd (out (j - s) l (omega arith))) (λ (g : n ≤ j - s). g) (cases_lt (j - s) n) in
    let at : s + (n + (j - s - n)) ≡ j = omega arith in
    get_or-append_right (take s xs) (part ++ drop n (drop s xs)) s j 0 (length-take-le s xs (omega arith)) ge
    ∙ get_or-append_right part (drop n (drop s xs)) n (j - s) 0 long past
    ∙ get_or-drop n (drop s xs) (j - s - n) 0 ∙ get_or-drop s xs (n + (j - s - n)) 0 ∙ ap (λ (x : ℕ). get_or xs x 0) at)
    (cases_lt j s)
