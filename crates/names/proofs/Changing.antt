-- One name more, and fewer names: places, tables, and that the names are different.
use Rattle.std.proofs.Common.{◌≡◌, ℕ, zero, suc, ◌+◌, ◌<◌, ◌≤◌, cond, ltb, leb, List, [], ◌∷◌, ◌++◌, length, get_or, take, drop, set, None, Ok, Err, vec_items, Result, sym, ap, ◌∙◌, subst, ap₂, ⊎_elim, append-nil, zero-add, arith}
use Rattle.std.specs.Str.{bytes_eq}
use Rattle.std.specs.Vec.{with_items}
use Rattle.std.proofs.lemmas.List.{length-append, length_push, length-take-le, take-append-drop, get_or_append_left, get_or_push, get_or-take, with_items_is}
use Rattle.std.proofs.lemmas.Slice.Eq.{bytes_eq-Decides}
use Rattle.std.proofs.lemmas.Option.{none-some}
use Rattle.std.proofs.lemmas.Bool.{cases_Bool, cases_lt, cond-true, cond-false, and_parts, ltb-true, leb-true}
use Rattle.names.specs.declared.refusal.Refusal.{Refusal}
use Rattle.names.specs.declared.refusal.Refusal.TheVariants.{NoTypePlace, NoBytePlace}
use Rattle.names.specs.Limits.{most_types, most_bytes}
use Rattle.names.specs.Tables.{span, bytes_of, spans_from, padded, pool_of, spans_of, wiped, written, Different}
use Rattle.names.specs.Finding.{number_from, number_in}
use Rattle.names.specs.Entering.{has_entry, has_bytes, place_answer}
use Rattle.names.specs.Held.{names_in, pool_size, table_size}
use Rattle.names.specs.declared.names.Names.{Names}
use Rattle.names.specs.declared.span.Span.{Span}
use Rattle.names.proofs.Keeping.{counted}
use Rattle.names.proofs.Padding.{length_padded, written_padded, set_padded, wiped_padded}
use Rattle.names.proofs.Laying.{Laid, bytes_of-append, spans_from-append, length-spans_from}

-- a type that is not refused finds its places
pub fits_from : (size places : ℕ) (names : List (List ℕ)) (bytes : ℕ) → place_answer size places names bytes ≡ Ok tt → (length names < places) × (length names < most_types) × (length (bytes_of names) + bytes ≤ size) × (length (bytes_of names) + bytes ≤ most_bytes)
fits_from size places names bytes e =
    let total = length (bytes_of names) + bytes in
    let room = has_entry places names in
    let fits = has_bytes size names bytes in
    let inner : Result (Unit {0}) Refusal = cond fits (Ok tt) (Err NoBytePlace) in
    ⊎_elim
    (λ r.
    ⊎_elim
    (λ f.
    let rs = and_parts (ltb (length names) places) (ltb (length names) most_types) r in
    let fs = and_parts (leb total size) (leb total most_bytes) f in
    (ltb-true _ _ rs.0, ltb-true _ _ rs.1, leb-true _ _ fs.0, leb-true _ _ fs.1))
    (λ f. absurd (never NoBytePlace (sym (cond-false fits (Ok tt) (Err NoBytePlace) f) ∙ sym (cond-true room inner (Err NoTypePlace) r) ∙ e)))
    (cases_Bool fits))
    (λ r. absurd (never NoTypePlace (sym (cond-false room inner (Err NoTypePlace) r) ∙ e)))
    (cases_Bool room)
  where
    never : (x : Refusal) → ◌≡◌ {A = Result (Unit {0}) Refusal} (Err x) (Ok tt) → ⊥
    never x z = grind arith

-- one name more
module _ (names : List (List ℕ)) (bytes : List ℕ) where
  pub bytes_of_push : bytes_of (names ++ (bytes ∷ [])) ≡ bytes_of names ++ bytes
  bytes_of_push = bytes_of-append names (bytes ∷ []) ∙ ap (λ l. bytes_of names ++ l) (append-nil bytes)

  pub pool_entered : (size : ℕ) → written (length (bytes_of names)) bytes (pool_of names size) ≡ pool_of (names ++ (bytes ∷ [])) size
  pool_entered size = written_padded 0 size (bytes_of names) bytes ∙ ap (padded 0 size) (sym bytes_of_push)

  pub table_entered : (places : ℕ) → length names < places → set (spans_of names places) (length names) (span (length (bytes_of names)) (length bytes)) ≡ spans_of (names ++ (bytes ∷ [])) places
  table_entered places h =
      let marks = spans_from 0 names in
      let mark = span (length (bytes_of names)) (length bytes) in
      let e = length-spans_from 0 names in
      let push : spans_from 0 (names ++ (bytes ∷ [])) ≡ marks ++ (mark ∷ []) =
      spans_from-append 0 names (bytes ∷ []) ∙ ap (λ k. marks ++ (span k (length bytes) ∷ [])) (zero-add (length (bytes_of names))) in
      ap (λ k. set (spans_of names places) k mark) (sym e) ∙ set_padded (span 0 0) places marks mark (omega arith) ∙ ap (padded (span 0 0) places) (sym push)

-- fewer names
module _ (names : List (List ℕ)) (left : ℕ) where
  bytes_split : bytes_of names ≡ bytes_of (take left names) ++ bytes_of (drop left names)
  bytes_split = ap bytes_of (sym (take-append-drop left names)) ∙ bytes_of-append (take left names) (drop left names)

  pub bytes_left : length (bytes_of (take left names)) ≤ length (bytes_of names)
  bytes_left = omega (arith, ap length bytes_split, length-append (bytes_of (take left names)) (bytes_of (drop left names)))

  pub pool_left : (size : ℕ) → length (bytes_of names) ≤ size → wiped 0 (length (bytes_of (take left names))) (length (bytes_of names)) (pool_of names size) ≡ pool_of (take left names) size
  pool_left size h =
      let front = bytes_of (take left names) in
      ap (λ l. wiped 0 (length front) (length l) (padded 0 size l)) bytes_split
      ∙ wiped_padded 0 size front (bytes_of (drop left names)) (subst (λ l. length l ≤ size) bytes_split h)

  pub table_left : (places : ℕ) → left ≤ length names → length names ≤ places → wiped (span 0 0) left (length names) (spans_of names places) ≡ spans_of (take left names) places
  table_left places few h =
      let front = spans_from 0 (take left names) in
      let given = spans_from (0 + length (bytes_of (take left names))) (drop left names) in
      let split : spans_from 0 names ≡ front ++ given = ap (spans_from 0) (sym (take-append-drop left names)) ∙ spans_from-append 0 (take left names) (drop left names) in
      let first : left ≡ length front = sym (length-spans_from 0 (take left names) ∙ length-take-le left names few) in
      let all = length-spans_from 0 names in
      ap₂ (λ (a b : ℕ). wiped (span 0 0) a b (spans_of names places)) first (sym all)
      ∙ ap (λ l. wiped (span 0 0) (length front) (length l) (padded (span 0 0) places l)) split
      ∙ wiped_padded (span 0 0) places front given (subst (λ l. length l ≤ places) split (omega arith))

-- a name that is not found stands at no place
pub not_found : (first : ℕ) (names : List (List ℕ)) (bytes : List ℕ) → number_from first names bytes ≡ None → (i : ℕ) → i < length names → get_or names i [] ≡ bytes → ⊥
not_found first [] bytes e i h q = omega arith
not_found first (name ∷ names) bytes e zero h q =
    none-some first (sym e ∙ cond-true (bytes_eq name bytes) _ _ ((bytes_eq-Decides name bytes).1 q))
not_found first (name ∷ names) bytes e (suc i) h q =
    ⊎_elim
    (λ t. none-some first (sym e ∙ cond-true (bytes_eq name bytes) _ _ t))
    (λ f. not_found (first + 1) names bytes (sym (cond-false (bytes_eq name bytes) _ _ f) ∙ e) i (omega arith) q)
    (cases_Bool (bytes_eq name bytes))

pub different_entered : (names : List (List ℕ)) (bytes : List ℕ) → Different names → number_in names bytes ≡ None → Different (names ++ (bytes ∷ []))
different_entered names bytes d e i j h k q =
    let long = length_push names bytes in
    let at_i = get_or_append_left names (bytes ∷ []) [] i (omega arith) in
    ⊎_elim
    (λ z. d i j h z (sym at_i ∙ q ∙ get_or_append_left names (bytes ∷ []) [] j z))
    (λ z. not_found 0 names bytes e i (omega arith) (sym at_i ∙ q ∙ get_or_push names bytes [] j (omega arith)))
    (cases_lt j (length names))

pub different_left : (names : List (List ℕ)) (left : ℕ) → left ≤ length names → Different names → Different (take left names)
different_left names left few d i j h k q =
    let long = length-take-le left names few in
    d i j h (omega arith) (sym (get_or-take left names i [] (omega arith)) ∙ q ∙ get_or-take left names j [] (omega arith))

-- a table that was written holds what was written
module _ (n : Names) where
  pool_with : (ws : List ℕ) (names : List (List ℕ)) → length (bytes_of names) ≤ pool_size n → ws ≡ pool_of names (pool_size n) → vec_items (with_items n.pool ws) ≡ pool_of names (pool_size n)
  pool_with ws names h e = with_items_is n.pool ws (ap length e ∙ length_padded 0 (pool_size n) (bytes_of names) h) ∙ e

  table_with : (vs : List Span) (names : List (List ℕ)) → length names ≤ table_size n → vs ≡ spans_of names (table_size n) → vec_items (with_items n.spans vs) ≡ spans_of names (table_size n)
  table_with vs names h e =
      with_items_is n.spans vs (ap length e ∙ length_padded (span 0 0) (table_size n) (spans_from 0 names) (omega (arith, length-spans_from 0 names))) ∙ e

-- what the tables hold after a new name was written into the pool, and its span into the name table
module _ (n : Names) (bytes : List ℕ) (new : None ≡ number_in (names_in n) bytes) (room : Ok tt ≡ place_answer (pool_size n) (table_size n) (names_in n) (length bytes)) (ws : List ℕ) (wrote : ws ≡ written n.used bytes (vec_items n.pool)) where
  pub laid_entered : Laid (vec_items (with_items n.pool ws)) (set (vec_items n.spans) n.count (span n.used (length bytes))) (pool_size n) (table_size n) (n.count + 1) (n.used + length bytes) (names_in n ++ (bytes ∷ []))
  laid_entered =
      let names = names_in n in
      let fits = fits_from (pool_size n) (table_size n) names (length bytes) (sym room) in
      let used : n.used + length bytes ≡ length (bytes_of (names ++ (bytes ∷ []))) = omega (arith, ap length (bytes_of_push names bytes), length-append (bytes_of names) bytes, n.in_use) in
      let is : ws ≡ pool_of (names ++ (bytes ∷ [])) (pool_size n) = wrote ∙ ap₂ (λ (k : ℕ) (l : List ℕ). written k bytes l) n.in_use n.whole_pool ∙ pool_entered names bytes (pool_size n) in
      record {
        pool_is = pool_with n ws (names ++ (bytes ∷ [])) (omega (arith, used, n.in_use, fits.2)) is;
        spans_is =
            ap (λ l. set l n.count (span n.used (length bytes))) n.whole_table
            ∙ ap₂ (λ (i k : ℕ). set (spans_of names (table_size n)) i (span k (length bytes))) (sym (counted n)) n.in_use
            ∙ table_entered names bytes (table_size n) fits.0;
        count_is = omega (arith, length_push names bytes, counted n);
        used_is = used;
        in_table = omega (arith, counted n, fits.0);
        few_types = omega (arith, counted n, fits.1);
        in_pool = omega (arith, n.in_use, fits.2);
        few_bytes = omega (arith, n.in_use, fits.3);
        different = different_entered names bytes n.different (sym new);
      }

-- what the tables hold after the places of the later names were set to zero
module _ (n : Names) (left bytes : ℕ) (few : left ≤ n.count) (is : bytes ≡ length (bytes_of (take left (names_in n)))) where
  fewer_bytes : bytes ≤ n.used
  fewer_bytes = omega (arith, bytes_left (names_in n) left, n.in_use)

  module _ (ws : List ℕ) (wrote : ws ≡ wiped 0 bytes n.used (vec_items n.pool)) (vs : List Span) (set_to : vs ≡ wiped (span 0 0) left n.count (vec_items n.spans)) where
    pub laid_left : Laid (vec_items (with_items n.pool ws)) (vec_items (with_items n.spans vs)) (pool_size n) (table_size n) left bytes (take left (names_in n))
    laid_left =
        let names = names_in n in
        let few' : left ≤ length names = omega (arith, counted n) in
        record {
          pool_is =
              pool_with n ws (take left names) (omega (arith, bytes_left names left, n.in_use, n.in_pool))
              (wrote ∙ ap (wiped 0 bytes n.used) n.whole_pool ∙ ap₂ (λ (a b : ℕ). wiped 0 a b (pool_of names (pool_size n))) is n.in_use ∙ pool_left names left (pool_size n) (omega (arith, n.in_use, n.in_pool)));
          spans_is =
              table_with n vs (take left names) (omega (arith, length-take-le left names few', n.in_table))
              (set_to ∙ ap (wiped (span 0 0) left n.count) n.whole_table ∙ ap (λ b. wiped (span 0 0) left b (spans_of names (table_size n))) (sym (counted n)) ∙ table_left names left (table_size n) few' (omega (arith, counted n, n.in_table)));
          count_is = sym (length-take-le left names few');
          used_is = is;
          in_table = omega (arith, n.in_table);
          few_types = omega (arith, n.few_types);
          in_pool = omega (arith, fewer_bytes, n.in_pool);
          few_bytes = omega (arith, fewer_bytes, n.few_bytes);
          different = different_left names left few' n.different;
        }
