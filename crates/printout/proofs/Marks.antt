-- The marked links of a settled register are its kept links.
use Rattle.std.proofs.Common.{◌≡◌, ℕ, true, cond, eqb, List, [], ◌∷◌, length, get_or, take, is_ok, Some, None, Option, Result, sym, refl, ap, ◌∙◌, subst}
use mathlib.Core.Logic.{∥∥₁_elim}
use native.Mathlib.Nat.{ℕ_set}
use Rattle.std.proofs.lemmas.List.{same_lists}
use Rattle.std.proofs.lemmas.Bool.{false≢true}
use Rattle.descent.specs.declared.link.Link.{Link}
use Rattle.rows.specs.KeptEntries.{marked, kept_of, kept_links}
use Rattle.hierarchy.specs.Answering.{Answering}
use Rattle.hierarchy.specs.Indexes.{settled_answer}
use Rattle.printing.specs.declared.refusal.ShortOutput.{ShortOutput as Short}
use Rattle.printing.specs.Printed.{printed, print_answer, out_after}
use Rattle.register.specs.Contents.{Contents, Answers}
use Rattle.printout.specs.Printouts.{text_of, printed_or, answer_by, output_by}

-- only the entries of the links count
marked_front : (entries : List ℕ) (links : List Link) → marked entries links ≡ marked (take (length links) entries) links
marked_front [] [] = refl
marked_front [] (l ∷ links) = refl
marked_front (x ∷ entries) [] = refl
marked_front (x ∷ entries) (l ∷ links) = ap (λ ls. cond (eqb x 1) (l ∷ ls) ls) (marked_front entries links)

kept-written : (count n : ℕ) (links : List Link) (order chain position kept index : List ℕ) → ∥ Answering (Some count) n links order chain position kept index ∥₁ → take (length links) kept ≡ kept_of links
kept-written count n links order chain position kept index x =
    same_lists (take (length links) kept) (kept_of links) (∥∥₁_elim x (ℕ_set _ _) (λ y. ap length y.2)) (λ k d h. ∥∥₁_elim x (ℕ_set _ _) (λ y. ap (λ (l : List ℕ). get_or l k d) y.2))

marked-kept : (count n : ℕ) (links : List Link) (order chain position kept index : List ℕ) → ∥ Answering (Some count) n links order chain position kept index ∥₁ → marked kept links ≡ kept_links links
marked-kept count n links order chain position kept index x = marked_front kept links ∙ ap (λ es. marked es links) (kept-written count n links order chain position kept index x)

-- what a settled register's printing answers and writes
pub record Prints (settled : Option ℕ) (c : Contents) (names : List (List ℕ)) (kept : List ℕ) (links : List Link) (out : List ℕ) : Type 0 where
  pub answers : (r : Result ℕ Short) → r ≡ print_answer (printed names (marked kept links)) (length out) → printed_or r ≡ answer_by settled c.entries (length out)
  pub writes : (after : List ℕ) → after ≡ out_after (printed names (marked kept links)) out → after ≡ output_by settled c.entries out

prints_at : (settled : Option ℕ) (c : Contents) (out : List ℕ) → is_ok (settled_answer settled) ≡ true → ∥ Answers settled c ∥₁ → Prints settled c c.entries.names c.written.kept c.entries.links out
prints_at (Some count) c out ok x =
    let text : printed c.entries.names (marked c.written.kept c.entries.links) ≡ text_of c.entries = ap (printed c.entries.names) (marked-kept count (length c.entries.names) c.entries.links c.written.order c.written.chain c.written.position c.written.kept c.written.index x) in
    record {
      answers = λ r e. ap printed_or (e ∙ ap (λ t. print_answer t (length out)) text);
      writes = λ after e. e ∙ ap (λ t. out_after t out) text;
    }
prints_at None c out ok x = absurd (false≢true ok)

pub prints : (c : Contents) (names : List (List ℕ)) (kept : List ℕ) (links : List Link) (out : List ℕ) → is_ok (settled_answer c.settled) ≡ true → ∥ Answers c.settled c ∥₁ → names ≡ c.entries.names → kept ≡ c.written.kept → links ≡ c.entries.links → Prints c.settled c names kept links out
prints c names kept links out ok x n k l =
    subst (λ ns. Prints c.settled c ns kept links out) (sym n) (subst (λ ks. Prints c.settled c c.entries.names ks links out) (sym k) (subst (λ ls. Prints c.settled c c.entries.names c.written.kept ls out) (sym l) (prints_at c.settled c out ok x)))
