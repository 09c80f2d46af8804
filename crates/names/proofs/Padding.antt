-- Tables that are written: places set to zero, items written, one place set.
use Rattle.std.proofs.Common.{◌≡◌, ℕ, suc, ◌+◌, ◌-◌, ◌<◌, ◌≤◌, List, [], ◌∷◌, ◌++◌, length, take, drop, set, replicate, sym, refl, ap, ap₂, ◌∙◌, append_assoc, add-one, arith}
use Rattle.std.proofs.lemmas.List.{length-append, length-replicate, drop-drop, drop-replicate, drop_at, take_at, set_split, replicate-append-replicate}
use borrow.Rule.Slice.PartMut.{mid_of, mid_len, put_mid, Post-is}
use Rattle.names.specs.Tables.{padded, wiped, written}

-- what a table holds after a part of it was written
module _ {X : Type 0} (first : ℕ) (table part : List X) where
  pub part_wiped : (zero : X) (last : ℕ) → first ≤ last → last ≤ length table → part ≡ replicate (length (mid_of first (last - first) table)) zero → put_mid first (last - first) table part ≡ wiped zero first last table
  part_wiped zero last ordered within e =
      ap₂ (λ (l m : List X). take first table ++ (l ++ m)) (e ∙ ap (λ k. replicate k zero) (mid_len first last table within)) (Post-is first last table ordered)

  pub part_written : (items : List X) → part ≡ items → put_mid first (first + length items - first) table part ≡ written first items table
  part_written items e =
      ap₂ (λ (l m : List X). take first table ++ (l ++ m)) e (Post-is first (first + length items) table (omega arith))

module _ {X : Type 0} (zero : X) where
  pub length_padded : (size : ℕ) (front : List X) → length front ≤ size → length (padded zero size front) ≡ size
  length_padded size front h =
      length-append front (replicate (size - length front) zero) ∙ omega (arith, length-replicate (size - length front) zero)

  pub written_padded : (size : ℕ) (front more : List X) → written (length front) more (padded zero size front) ≡ padded zero size (front ++ more)
  written_padded size front more =
      let table = padded zero size front in
      let rest = replicate (size - length front) zero in
      let n : size - length front - length more ≡ size - length (front ++ more) = omega (arith, length-append front more) in
      ap (λ l. l ++ (more ++ drop (length front + length more) table)) (take_at front rest (length front) refl)
      ∙ ap (λ l. front ++ (more ++ l)) (sym (drop-drop (length more) (length front) table) ∙ ap (drop (length more)) (drop_at front rest (length front) refl) ∙ drop-replicate (length more) (size - length front) zero ∙ ap (λ m. replicate m zero) n)
      ∙ sym (append_assoc front more (replicate (size - length (front ++ more)) zero))

  pub set_padded : (size : ℕ) (front : List X) (x : X) → length front < size → set (padded zero size front) (length front) x ≡ padded zero size (front ++ (x ∷ []))
  set_padded size front x h =
      let table = padded zero size front in
      let l : length table ≡ size = length_padded size front (omega arith) in
      let n : suc (length front) ≡ length front + 1 = sym (add-one (length front)) in
      set_split table (length front) x (omega arith)
      ∙ ap (λ k. take (length front) table ++ (x ∷ drop k table)) n
      ∙ written_padded size front (x ∷ [])

  pub wiped_padded : (size : ℕ) (front given : List X) → length (front ++ given) ≤ size → wiped zero (length front) (length (front ++ given)) (padded zero size (front ++ given)) ≡ padded zero size front
  wiped_padded size front given h =
      let table = padded zero size (front ++ given) in
      let rest = replicate (size - length (front ++ given)) zero in
      let n : length (front ++ given) - length front + (size - length (front ++ given)) ≡ size - length front = omega (arith, length-append front given) in
      ap (λ l. l ++ (replicate (length (front ++ given) - length front) zero ++ drop (length (front ++ given)) table)) (ap (take (length front)) (append_assoc front given rest) ∙ take_at front (given ++ rest) (length front) refl)
      ∙ ap (λ l. front ++ (replicate (length (front ++ given) - length front) zero ++ l)) (drop_at (front ++ given) rest (length (front ++ given)) refl)
      ∙ ap (λ l. front ++ l) (replicate-append-replicate (length (front ++ given) - length front) (size - length (front ++ given)) zero ∙ ap (λ m. replicate m zero) n)
