-- A name that is not over: what may follow it, until it is a name.
use Rattle.std.proofs.Common.{◌≡◌, ℕ, zero, suc, true, List, [], ◌∷◌, ◌++◌, sym, refl, ap, ◌∙◌, subst, append_assoc, append-nil}
use Rattle.grammar.specs.Bytes.{begins, continues, comma, opening, closing}
use Rattle.grammar.specs.Grammar.{Tail, no_more, one_more, word, Name, plain, applied, Arguments, last_one, and_more}
use Rattle.grammar.specs.Reading.{Mode, fresh, in_word, closed}
use Rattle.grammar_meaning.proofs.Moves.{Whole, after_word, after_bracket}

-- a name within it was just read, with so many brackets open
abbrev pub AfterName : ℕ → List ℕ → Type 0
AfterName zero k = Name k
AfterName (suc d) k = AfterName d (k ++ (closing ∷ [])) × ((ns : List ℕ) → Arguments ns → AfterName d (k ++ (comma ∷ (ns ++ (closing ∷ [])))))

-- a name is to begin
abbrev pub BeforeName : ℕ → List ℕ → Type 0
BeforeName zero k = k ≡ []
BeforeName (suc d) k = (ns : List ℕ) → Arguments ns → AfterName d (k ++ (ns ++ (closing ∷ [])))

-- a word goes on
abbrev pub InWord : ℕ → List ℕ → Type 0
InWord d k = (t : List ℕ) → Tail t → AfterName d (k ++ t) × BeforeName (suc d) (k ++ (t ++ (opening ∷ [])))

abbrev pub Unfinished : Mode → ℕ → List ℕ → Type 0
Unfinished fresh d k = BeforeName d k
Unfinished in_word d k = InWord d k
Unfinished closed d k = AfterName d k

pub name_read : (d : ℕ) (k n : List ℕ) → BeforeName d k → Name n → AfterName d (k ++ n)
name_read zero k n h x = subst (λ j. Name (j ++ n)) (sym h) x
name_read (suc d) k n h x = (
  subst (AfterName d) (sym (append_assoc k n (closing ∷ []))) (h n (last_one x)),
  λ ns y. subst (AfterName d) (ap (λ r. k ++ r) (append_assoc n (comma ∷ ns) (closing ∷ [])) ∙ sym (append_assoc k n (comma ∷ (ns ++ (closing ∷ []))))) (h (n ++ (comma ∷ ns)) (and_more x y)),
)

pub word_read : (d b : ℕ) (k : List ℕ) → BeforeName d k → begins b ≡ true → InWord d (k ++ (b ∷ []))
word_read d b k h e t x = (
  subst (AfterName d) (sym (append_assoc k (b ∷ []) t)) (name_read d k (b ∷ t) h (plain (word e x))),
  λ ns y.
      let whole : AfterName d (k ++ (b ∷ (t ++ (opening ∷ (ns ++ (closing ∷ [])))))) = name_read d k (b ∷ (t ++ (opening ∷ (ns ++ (closing ∷ []))))) h (applied (word e x) y) in
      subst (AfterName d) (simp append_assoc) whole,
)

pub word-longer : (d b : ℕ) (k : List ℕ) → InWord d k → continues b ≡ true → InWord d (k ++ (b ∷ []))
word-longer d b k h e t x =
    let longer = h (b ∷ t) (one_more e x) in (
      subst (AfterName d) (sym (append_assoc k (b ∷ []) t)) longer.0,
      subst (BeforeName (suc d)) (sym (append_assoc k (b ∷ []) (t ++ (opening ∷ [])))) longer.1,
    )

pub bracket_opened : (d : ℕ) (k : List ℕ) → InWord d k → BeforeName (suc d) (k ++ (opening ∷ []))
bracket_opened d k h = (h [] no_more).1

pub whole_read : {m : Mode} (d : ℕ) (k : List ℕ) → Whole m → Unfinished m d k → AfterName d k
whole_read d k after_word h = subst (AfterName d) (append-nil k) (h [] no_more).0
whole_read d k after_bracket h = h

pub comma_read : (d : ℕ) (k : List ℕ) → AfterName (suc d) k → BeforeName (suc d) (k ++ (comma ∷ []))
comma_read d k h ns x = subst (AfterName d) (sym (append_assoc k (comma ∷ []) (ns ++ (closing ∷ [])))) (h.1 ns x)

pub bracket_closed : (d : ℕ) (k : List ℕ) → AfterName (suc d) k → AfterName d (k ++ (closing ∷ []))
bracket_closed d k h = h.0

-- something makes a name of it
abbrev pub Completes : List ℕ → Type 0
Completes k = (rest : List ℕ) × Name (k ++ rest)

close_all : (d : ℕ) (k : List ℕ) → AfterName d k → Completes k
close_all zero k h = ([], subst Name (sym (append-nil k)) h)
close_all (suc d) k h =
    let more = close_all d (k ++ (closing ∷ [])) h.0 in
    (closing ∷ more.0, subst Name (append_assoc k (closing ∷ []) more.0) more.1)

pub completes : (m : Mode) (d : ℕ) (k : List ℕ) → Unfinished m d k → Completes k
completes fresh d k h =
    let more = close_all d (k ++ (65 ∷ [])) (name_read d k (65 ∷ []) h (plain (word refl no_more))) in
    (65 ∷ more.0, subst Name (append_assoc k (65 ∷ []) more.0) more.1)
completes in_word d k h = close_all d k (subst (AfterName d) (append-nil k) (h [] no_more).0)
completes closed d k h = close_all d k h
