-- What is shown of a text that is printed into an output of 8,192 bytes.
use Rattle.std.proofs.Common.{◌≡◌, ℕ, ◌≤◌, Bool, true, false, cond, eqb, ltb, List, [], ◌∷◌, ◌++◌, length, take, drop, Ok, Err, sym, refl, ap, ◌∙◌, arith}
use Rattle.std.proofs.lemmas.List.{take_at, length-append, length-drop, length-map}
use Rattle.std.proofs.lemmas.Bool.{cond-true, cond-false, ltb-false}
use Rattle.descent.specs.declared.link.Link.{Link}
use Rattle.rows.specs.KeptEntries.{kept_of, kept_links, marked}
use Rattle.printing.specs.declared.refusal.ShortOutput.{ShortOutput}
use Rattle.printing.specs.Printed.{print_answer, out_after}
use Rattle.program.specs.Program.{shown_report, placeless, shown_text}

-- entries past the links mark nothing
marked_front : (entries rest : List ℕ) (links : List Link) → length entries ≡ length links → marked (entries ++ rest) links ≡ marked entries links
marked_front [] [] [] e = refl
marked_front [] (x ∷ rest) [] e = refl
marked_front [] rest (l ∷ links) e = absurd (omega (arith, e))
marked_front (x ∷ entries) rest [] e = refl
marked_front (x ∷ entries) rest (l ∷ links) e = ap (λ ls. cond (eqb x 1) (l ∷ ls) ls) (marked_front entries rest links (omega (arith, e)))

pub kept-marked : (links : List Link) (kept rest : List ℕ) → kept ≡ kept_of links ++ rest → marked kept links ≡ kept_links links
kept-marked links kept rest e =
    let same : length (kept_of links) ≡ length links = simp length-map in
    ap (λ k. marked k links) e ∙ marked_front (kept_of links) rest links same

module _ (text before : List ℕ) (places : ℕ) (room : length before ≡ places) where
  fits_case : (b : Bool) (size : ℕ) (short : ShortOutput) → Ok size ≡ cond b (Err short) (Ok (length text)) → (b ≡ false) × (size ≡ length text)
  fits_case true size short e = let z : ◌≡◌ {A = ℕ} 0 1 = cc in absurd (omega arith)
  fits_case false size short e = (refl, cc)

  short_case : (b : Bool) (short full : ShortOutput) → Err short ≡ cond b (Err full) (Ok (length text)) → b ≡ true
  short_case true short full e = refl
  short_case false short full e = let z : ◌≡◌ {A = ℕ} 0 1 = cc in absurd (omega arith)

  -- a text that is refused is too long
  pub short_of : (short : ShortOutput) → Err short ≡ print_answer text places → ltb places (length text) ≡ true
  short_of short e = short_case (ltb places (length text)) short _ e

  -- the front of the output, of the length that was answered, is the text
  pub printed_front : (size : ℕ) (after : List ℕ) → Ok size ≡ print_answer text places → after ≡ out_after text before → (ltb places (length text) ≡ false) × (take size after ≡ text) × (length after ≡ places)
  printed_front size after e o =
      let f = fits_case (ltb places (length text)) size _ e in
      let le : length text ≤ places = ltb-false places (length text) f.0 in
      let same : after ≡ text ++ drop (length text) before = o ∙ ap (λ n. cond (ltb n (length text)) before (text ++ drop (length text) before)) room ∙ cond-false _ _ _ f.0 in (
        f.0,
        ap (λ l. take size l) same ∙ ap (λ n. take n (text ++ drop (length text) before)) f.1 ∙ take_at text (drop (length text) before) (length text) refl,
        ap length same ∙ length-append text (drop (length text) before) ∙ omega (arith, length-drop (length text) before),
      )

pub text_shown : (text : List ℕ) → ltb 8192 (length text) ≡ false → text ≡ shown_text text
text_shown text e = sym (cond-false _ _ _ e)

pub text_short : (text : List ℕ) → ltb 8192 (length text) ≡ true → shown_report (placeless 18) ≡ shown_text text
text_short text e = sym (cond-true _ _ _ e)
