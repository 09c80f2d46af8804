-- The reading with the limits set aside comes through each line of the grammar.
use Rattle.std.proofs.Common.{◌≡◌, ℕ, zero, suc, ◌+◌, false, cond, eqb, List, [], ◌∷◌, ◌++◌, length, sym, refl, ap, ◌∙◌, append_assoc, append-nil, arith, length-append}
use Rattle.std.proofs.lemmas.List.{length_push}
use Rattle.std.proofs.lemmas.Bool.{ne_eqb, both_ways, cond-true, cond-false}
use Rattle.grammar.specs.Bytes.{printable, begins, continues, space, hash, comma, less, opening, closing}
use Rattle.grammar.specs.Grammar.{Named, named, Tail, no_more, one_more, Word, word, Name, plain, applied, Arguments, last_one, and_more, Printable, none, also, Bases, last_base, more_bases, Line, empty, bare, under}
use Rattle.grammar.specs.Grammar.{comment as comment-line}
use Rattle.grammar.specs.Reading.{Part, first, base, Mode, fresh, in_word, closed, State, start, comment, in_name, stuck, after, within, step, Memory, nothing, remember, Outcome, lawful, over}

-- from a state, with what is remembered, at a column, whatever the names' lengths and brackets
abbrev pub freely : State → Memory → ℕ → List ℕ → Outcome
freely s m c [] = over s m c
freely s m c (b ∷ bs) = let t = step s b in freely t (remember t m c b) (c + 1) bs

stepped : (s t : State) (m : Memory) (c b : ℕ) (bs : List ℕ) → step s b ≡ t → freely s m c (b ∷ bs) ≡ freely t (remember t m c b) (c + 1) bs
stepped s t m c b bs e = ap (λ t. freely t (remember t m c b) (c + 1) bs) e

-- what may follow a whole name
abbrev Follows : List ℕ → Type 0
Follows [] = Unit {0}
Follows (b ∷ bs) = (continues b ≡ false) × (eqb b opening ≡ false)

-- in a name of that part that began at f, after the names ns
module _ (p : Part) (ns : List Named) (f : ℕ) where
  abbrev at : Mode → ℕ → List ℕ → ℕ → List ℕ → Outcome
  at m d k c bs = freely (in_name p m d) (record { names = ns; from = f; kept = k }) c bs

  moved : (m : Mode) (d : ℕ) (j k : List ℕ) (b c : ℕ) (rest : List ℕ) → j ≡ k → b ≡ c → at m d j b rest ≡ at m d k c rest
  moved m d j k b c rest e g = ap (λ k. at m d k b rest) e ∙ ap (λ c. at m d k c rest) g

  turned : (d : ℕ) (k : List ℕ) (c : ℕ) (rest : List ℕ) → Follows rest → at in_word d k c rest ≡ at closed d k c rest
  turned zero k c [] h = refl
  turned (suc d) k c [] h = refl
  turned d k c (b ∷ bs) h =
      stepped (in_name p in_word d) (after p d b) (record { names = ns; from = f; kept = k }) c b bs
      (cond-false (continues b) (in_name p in_word d) (cond (eqb b opening) (in_name p fresh (suc d)) (after p d b)) h.0 ∙ cond-false (eqb b opening) (in_name p fresh (suc d)) (after p d b) h.1)

  tail_read : {t : List ℕ} → Tail t → (d : ℕ) (k : List ℕ) (c : ℕ) (rest : List ℕ) → at in_word d k c (t ++ rest) ≡ at in_word d (k ++ t) (c + length t) rest
  tail_read no_more d k c rest = moved in_word d k (k ++ []) c (c + 0) rest (sym (append-nil k)) (omega arith)
  tail_read (one_more {b} {bs} e t) d k c rest =
      stepped (in_name p in_word d) (in_name p in_word d) (record { names = ns; from = f; kept = k }) c b (bs ++ rest)
      (cond-true (continues b) (in_name p in_word d) (cond (eqb b opening) (in_name p fresh (suc d)) (after p d b)) e)
      ∙ tail_read t d (k ++ (b ∷ [])) (c + 1) rest
      ∙ moved in_word d ((k ++ (b ∷ [])) ++ bs) (k ++ (b ∷ bs)) (c + 1 + length bs) (c + length (b ∷ bs)) rest (append_assoc k (b ∷ []) bs) (omega arith)

  word_read : {t : List ℕ} → Word t → (d : ℕ) (k : List ℕ) (c : ℕ) (rest : List ℕ) → at fresh d k c (t ++ rest) ≡ at in_word d (k ++ t) (c + length t) rest
  word_read (word {b} {bs} e t) d k c rest =
      stepped (in_name p fresh d) (in_name p in_word d) (record { names = ns; from = f; kept = k }) c b (bs ++ rest) (cond-true (begins b) (in_name p in_word d) stuck e)
      ∙ tail_read t d (k ++ (b ∷ [])) (c + 1) rest
      ∙ moved in_word d ((k ++ (b ∷ [])) ++ bs) (k ++ (b ∷ bs)) (c + 1 + length bs) (c + length (b ∷ bs)) rest (append_assoc k (b ∷ []) bs) (omega arith)

  mutual
    name_read : {n : List ℕ} → Name n → (d : ℕ) (k : List ℕ) (c : ℕ) (rest : List ℕ) → Follows rest → at fresh d k c (n ++ rest) ≡ at closed d (k ++ n) (c + length n) rest
    name_read (plain {w} x) d k c rest h = word_read x d k c rest ∙ turned d (k ++ w) (c + length w) rest h
    name_read (applied {w} {ns = as'} x y) d k c rest h =
        let inner = opening ∷ (as' ++ (closing ∷ [])) in
        let place : ((k ++ w) ++ (opening ∷ [])) ++ (as' ++ (closing ∷ [])) ≡ k ++ (w ++ inner) = simp append_assoc in
        ap (at fresh d k c) (append_assoc w inner rest ∙ ap (λ r. w ++ (opening ∷ r)) (append_assoc as' (closing ∷ []) rest))
        ∙ word_read x d k c (opening ∷ (as' ++ (closing ∷ rest)))
        ∙ arguments_read y d ((k ++ w) ++ (opening ∷ [])) (c + length w + 1) rest
        ∙ moved closed d (((k ++ w) ++ (opening ∷ [])) ++ (as' ++ (closing ∷ []))) (k ++ (w ++ inner)) (c + length w + 1 + length as' + 1) (c + length (w ++ inner)) rest place
        (omega (arith, length-append w inner, length_push as' closing))

    arguments_read : {as' : List ℕ} → Arguments as' → (d : ℕ) (k : List ℕ) (c : ℕ) (rest : List ℕ) → at fresh (suc d) k c (as' ++ (closing ∷ rest)) ≡ at closed d (k ++ (as' ++ (closing ∷ []))) (c + length as' + 1) rest
    arguments_read (last_one {n} x) d k c rest =
        name_read x (suc d) k c (closing ∷ rest) (refl, refl)
        ∙ moved closed d ((k ++ n) ++ (closing ∷ [])) (k ++ (n ++ (closing ∷ []))) (c + length n + 1) (c + length n + 1) rest (append_assoc k n (closing ∷ [])) refl
    arguments_read (and_more {n} {ns = as'} x y) d k c rest =
        let place : ((k ++ n) ++ (comma ∷ [])) ++ (as' ++ (closing ∷ [])) ≡ k ++ ((n ++ (comma ∷ as')) ++ (closing ∷ [])) = simp append_assoc in
        ap (at fresh (suc d) k c) (append_assoc n (comma ∷ as') (closing ∷ rest))
        ∙ name_read x (suc d) k c (comma ∷ (as' ++ (closing ∷ rest))) (refl, refl)
        ∙ arguments_read y d ((k ++ n) ++ (comma ∷ [])) (c + length n + 1) rest
        ∙ moved closed d (((k ++ n) ++ (comma ∷ [])) ++ (as' ++ (closing ∷ []))) (k ++ ((n ++ (comma ∷ as')) ++ (closing ∷ []))) (c + length n + 1 + length as' + 1) (c + length (n ++ (comma ∷ as')) + 1) rest place
        (omega (arith, length-append n (comma ∷ as')))

last_read : {n : List ℕ} → Name n → (p : Part) (ns : List Named) (c : ℕ) → freely (in_name p fresh 0) (record { names = ns; from = c; kept = [] }) c n ≡ lawful (ns ++ (named c n ∷ []))
last_read {n} x p ns c = ap (at p ns c fresh 0 [] c) (sym (append-nil n)) ∙ name_read p ns c x 0 [] c [] tt

bases_read : {c : ℕ} {bs : List ℕ} {more : List Named} → Bases c bs more → (ns : List Named) → freely (in_name base fresh 0) (record { names = ns; from = c; kept = [] }) c bs ≡ lawful (ns ++ more)
bases_read (last_base {c} x) ns = last_read x base ns c
bases_read (more_bases {c} {n} {bs} {ns = more} x y) ns =
    let there : c + length n + 1 + 1 ≡ c + length n + 2 = omega arith in
    name_read base ns c x 0 [] c (comma ∷ space ∷ bs) (refl, refl)
    ∙ ap (λ a. freely (in_name base fresh 0) (record { names = ns ++ (named c n ∷ []); from = a; kept = [] }) a bs) there
    ∙ bases_read y (ns ++ (named c n ∷ []))
    ∙ ap lawful (append_assoc ns (named c n ∷ []) more)

printable_read : {bs : List ℕ} → Printable bs → (m : Memory) (c : ℕ) → freely comment m c bs ≡ lawful []
printable_read none m c = refl
printable_read (also {b} {bs} e r) m c = stepped comment comment m c b bs (cond-true (printable b) comment stuck e) ∙ printable_read r m (c + 1)

-- no name begins with `#`
word_first : {w : List ℕ} → Word w → (rest : List ℕ) → freely start nothing 1 (w ++ rest) ≡ freely (in_name first fresh 0) nothing 1 (w ++ rest)
word_first (word {b} {bs} e t) rest =
    stepped start (within first fresh 0 b) nothing 1 b (bs ++ rest) (cond-false (eqb b hash) comment (within first fresh 0 b) (ne_eqb b hash (λ q. both_ways (begins b) (ap begins q) e)))

name_first : {n : List ℕ} → Name n → (rest : List ℕ) → freely start nothing 1 (n ++ rest) ≡ freely (in_name first fresh 0) nothing 1 (n ++ rest)
name_first (plain x) rest = word_first x rest
name_first (applied {w} {ns = as'} x y) rest =
    let inner = opening ∷ (as' ++ (closing ∷ [])) in
    ap (freely start nothing 1) (append_assoc w inner rest) ∙ word_first x (inner ++ rest) ∙ ap (freely (in_name first fresh 0) nothing 1) (sym (append_assoc w inner rest))

pub line_read : {line : List ℕ} {names : List Named} → Line line names → freely start nothing 1 line ≡ lawful names
line_read empty = refl
line_read (comment-line r) = printable_read r nothing 2
line_read (bare {n} x) =
    ap (freely start nothing 1) (sym (append-nil n)) ∙ name_first x [] ∙ ap (freely (in_name first fresh 0) nothing 1) (append-nil n) ∙ last_read x first [] 1
line_read (under {n} {bs} {ns} x y) =
    let there : 1 + length n + 1 + 1 + 1 ≡ length n + 4 = omega arith in
    name_first x (space ∷ less ∷ space ∷ bs)
    ∙ name_read first [] 1 x 0 [] 1 (space ∷ less ∷ space ∷ bs) (refl, refl)
    ∙ ap (λ a. freely (in_name base fresh 0) (record { names = named 1 n ∷ []; from = a; kept = [] }) a bs) there
    ∙ bases_read y (named 1 n ∷ [])
