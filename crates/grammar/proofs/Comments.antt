-- A comment, byte by byte.
use Rattle.std.proofs.Common.{◌≡◌, ℕ, zero, suc, not, add-one, ◌+◌, ◌<◌, ◌≤◌, true, false, cond, eqb, List, [], length, get_or, drop, Some, None, sym, refl, ap, ◌∙◌, arith}
use Rattle.std.proofs.lemmas.List.{at_drop_more, at_drop_all}
use Rattle.std.specs.List.{position, position_or_len}
use Rattle.std.proofs.lemmas.List.Sums.{fails_before_first}
use Rattle.std.proofs.lemmas.List.Quantifiers.{position-Some}
use Rattle.grammar.specs.declared.fault.Rule.TheVariants.{Printable, Brackets, Grammar}
use Rattle.grammar.specs.Bytes.{printable, closing}
use Rattle.grammar.specs.Reading.{comment, nothing, stuck, broken, remember, unless, lawful, fault, reading_from}

-- a comment, from its byte i on, which stands at column c
module _ (s : List ℕ) (i c : ℕ) where
  pub comment_more : (d : ℕ) → i < length s → c + 1 ≡ d → printable (get_or s i 0) ≡ true → reading_from comment nothing c (drop i s) ≡ reading_from comment nothing d (drop (i + 1) s)
  comment_more d h q e =
      at_drop_more (reading_from comment nothing c) s i 0 h
      ∙ ap (λ t. unless (broken comment t (remember t nothing c (get_or s i 0)) (get_or s i 0)) c (reading_from t (remember t nothing c (get_or s i 0)) (c + 1) (drop (i + 1) s))) (ap (λ t. cond t comment stuck) e)
      ∙ ap (λ k. reading_from comment nothing k (drop (i + 1) s)) q

  pub comment_stops : i < length s → printable (get_or s i 0) ≡ false → reading_from comment nothing c (drop i s) ≡ fault Printable c
  comment_stops h e =
      at_drop_more (reading_from comment nothing c) s i 0 h
      ∙ ap (λ t. unless (broken comment t (remember t nothing c (get_or s i 0)) (get_or s i 0)) c (reading_from t (remember t nothing c (get_or s i 0)) (c + 1) (drop (i + 1) s))) (ap (λ t. cond t comment stuck) e)
      ∙ ap (λ t. fault (cond t (cond (eqb (get_or s i 0) closing) Brackets Grammar) Printable) c) e

-- a comment, up to its byte n
comment_to : (s : List ℕ) (n : ℕ) → n ≤ length s → ((k : ℕ) → k < n → not (printable (get_or s k 0)) ≡ false) → reading_from comment nothing 2 s ≡ reading_from comment nothing (n + 2) (drop n s)
comment_to s zero h f = refl
comment_to s (suc n) h f =
    comment_to s n (omega arith) (λ k j. f k (omega arith))
    ∙ comment_more s n (n + 2) (suc n + 2) (omega arith) (omega arith) (grind (arith, f n (omega arith)))
    ∙ ap (λ j. reading_from comment nothing (suc n + 2) (drop j s)) (add-one n)

pub comment_found : (s : List ℕ) (n : ℕ) → Some n ≡ position (λ b. not (printable b)) s → reading_from comment nothing 2 s ≡ fault Printable (n + 2)
comment_found s n e =
    let p = position-Some (λ b. not (printable b)) s n 0 (sym e) in
    comment_to s n (omega (arith, p.0)) p.2 ∙ comment_stops s n (n + 2) p.0 (grind (arith, p.1))

pub comment_lawful : (s : List ℕ) → None ≡ position (λ b. not (printable b)) s → reading_from comment nothing 2 s ≡ lawful []
comment_lawful s e =
    let last : length s ≤ position_or_len (λ b. not (printable b)) s = grind (arith, e) in
    comment_to s (length s) (omega arith) (λ k h. fails_before_first (λ b. not (printable b)) s k 0 (omega arith))
    ∙ at_drop_all (reading_from comment nothing (length s + 2)) s (length s) (omega arith)
