-- Entering names in turn, and taking them back.
use Rattle.std.proofs.Common.{◌≡◌, ℕ, ◌≤◌, leb, List, [], ◌∷◌, ◌++◌, length, take, Some, None, Ok, Err, Option, Result, sym, refl, ap, ◌∙◌, subst, append_assoc, append-nil, arith}
use Rattle.std.proofs.lemmas.List.{length-append, length_push, take_at}
use Rattle.std.proofs.lemmas.Bool.{cond-true, le-leb}
use Rattle.names.specs.declared.refusal.Entry.{Entry}
use Rattle.names.specs.declared.refusal.Entry.TheVariants.{Known, New}
use Rattle.names.specs.declared.refusal.Refusal.{Refusal}
use Rattle.names.specs.Tables.{span, bytes_of, pool_of, spans_of, wiped}
use Rattle.names.specs.Finding.{number_in}
use Rattle.names.specs.Entering.{place_answer, answer_by, enter_answer, names_after, back_answer, names_left}
use Rattle.names.specs.Facts.{entered_all, Fits, Undone}
use Rattle.names.proofs.Changing.{fits_from, bytes_of_push, pool_left, table_left}

after_extends : (names : List (List ℕ)) (bytes : List ℕ) (answer : Result Entry Refusal) → (rest : List (List ℕ)) × (names_after names bytes answer ≡ names ++ rest)
after_extends names bytes (Ok (New number)) = (bytes ∷ [], refl)
after_extends names bytes (Ok (Known number)) = ([], sym (append-nil names))
after_extends names bytes (Err refusal) = ([], sym (append-nil names))

module _ (size places : ℕ) where
  -- the old names stand first
  pub extends : (names more : List (List ℕ)) → (rest : List (List ℕ)) × (entered_all size places names more ≡ names ++ rest)
  extends names [] = ([], sym (append-nil names))
  extends names (bytes ∷ more) =
      let one = after_extends names bytes (enter_answer size places names bytes) in
      let all = extends (names_after names bytes (enter_answer size places names bytes)) more in
      (one.0 ++ all.0, all.1 ∙ ap (λ l. l ++ all.0) one.1 ∙ append_assoc names one.0 all.0)

  fits_by : (names : List (List ℕ)) (bytes : List ℕ) (known : Option ℕ) (place : Result (Unit {0}) Refusal) → place_answer size places names (length bytes) ≡ place → Fits size places names → Fits size places (names_after names bytes (answer_by known place (length names)))
  fits_by names bytes (Some number) place e f = f
  fits_by names bytes None (Err refusal) e f = f
  fits_by names bytes None (Ok found) e f =
      let h = fits_from size places names (length bytes) e in
      (omega (arith, h.2, ap length (bytes_of_push names bytes), length-append (bytes_of names) bytes), omega (arith, h.0, length_push names bytes))

  pub fits_all : (names more : List (List ℕ)) → Fits size places names → Fits size places (entered_all size places names more)
  fits_all names [] f = f
  fits_all names (bytes ∷ more) f =
      fits_all (names_after names bytes (enter_answer size places names bytes)) more (fits_by names bytes (number_in names bytes) (place_answer size places names (length bytes)) refl f)

  pub undone : (names more : List (List ℕ)) → Fits size places names → Undone size places names (entered_all size places names more)
  undone names more f =
      let after = entered_all size places names more in
      let rest = (extends names more).0 in
      let e : after ≡ names ++ rest = (extends names more).1 in
      let front : take (length names) after ≡ names = ap (take (length names)) e ∙ take_at names rest (length names) refl in
      let few : length names ≤ length after = omega (arith, ap length e, length-append names rest) in
      let fits = fits_all names more f in
      let yes : back_answer after (length names) ≡ Ok tt = cond-true (leb (length names) (length after)) _ _ (le-leb (length names) (length after) few) in
      record {
        answer = yes;
        names = ap (names_left after (length names)) yes ∙ front;
        pool = subst (λ l. wiped 0 (length (bytes_of l)) (length (bytes_of after)) (pool_of after size) ≡ pool_of l size) front (pool_left after (length names) size fits.0);
        table = subst (λ l. wiped (span 0 0) (length names) (length after) (spans_of after places) ≡ spans_of l places) front (table_left after (length names) places few fits.1);
      }
