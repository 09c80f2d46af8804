-- The lines of a printed text.
use Rattle.std.proofs.Common.{◌≡◌, ℕ, ◌+◌, Bool, true, false, cond, eqb, List, [], ◌∷◌, ◌++◌, codes, sym, refl, ap, ◌∙◌, append_assoc}
use Rattle.std.specs.List.{AllByRecursion}
use Rattle.std.proofs.ByRecursion.{All-append}
use Rattle.std.proofs.lemmas.Bool.{both_ways, ne_eqb, cond-false}
use Rattle.descent.specs.declared.link.Link.{Link}
use Rattle.hierarchy.specs.Entering.{has_link}
use Rattle.grammar.specs.Bytes.{begins, continues, comma, opening, closing}
use Rattle.grammar.specs.Grammar.{Tail, no_more, one_more, Word, word, Name, plain, applied, Arguments, last_one, and_more}
use Rattle.texts.specs.Texts.{newline, before, lines_of}
use Rattle.printing.specs.Printed.{name_lines, base_names, parted, type_line, type_lines, printed}
use Rattle.printing_meaning.proofs.Lawful.{Good}

-- no byte ends a line
abbrev pub NoEnd : List ℕ → Type 0
NoEnd bytes = AllByRecursion (λ b. eqb b newline ≡ false) bytes

tail_whole : {t : List ℕ} → Tail t → NoEnd t
tail_whole no_more = tt
tail_whole (one_more {b = b} e t) = (ne_eqb b newline (λ z. both_ways (continues b) (ap continues z) e), tail_whole t)

word_whole : {w : List ℕ} → Word w → NoEnd w
word_whole (word {b = b} e t) = (ne_eqb b newline (λ z. both_ways (begins b) (ap begins z) e), tail_whole t)

abbrev Whole : ℕ → Type 0
Whole b = eqb b newline ≡ false

mutual
  name_whole : {n : List ℕ} → Name n → NoEnd n
  name_whole (plain w) = word_whole w
  name_whole (applied {w = w} {ns = ns} x a) = All-append Whole w (opening ∷ (ns ++ (closing ∷ []))) (word_whole x) (refl, All-append Whole ns (closing ∷ []) (arguments_whole a) (refl, tt))

  arguments_whole : {n : List ℕ} → Arguments n → NoEnd n
  arguments_whole (last_one n) = name_whole n
  arguments_whole (and_more {n = n} {ns = ns} x a) = All-append Whole n (comma ∷ ns) (name_whole x) (refl, arguments_whole a)

pub good_whole : (name : List ℕ) → Good name → NoEnd name
good_whole name g = name_whole g.is_name

-- the first line of a text
pub line_first : (line rest : List ℕ) → NoEnd line → lines_of (line ++ (newline ∷ rest)) ≡ line ∷ lines_of rest
line_first [] rest h = refl
line_first (b ∷ line) rest h =
    cond-false (eqb b newline) ([] ∷ lines_of (line ++ (newline ∷ rest))) (before b (lines_of (line ++ (newline ∷ rest)))) h.0 ∙ ap (before b) (line_first line rest h.1)

pub name_lines_lem : (names : List (List ℕ)) (rest : List ℕ) → AllByRecursion Good names → lines_of (name_lines names ++ rest) ≡ names ++ lines_of rest
name_lines_lem [] rest a = refl
name_lines_lem (name ∷ names) rest a =
    ap lines_of (append_assoc name (newline ∷ name_lines names) rest) ∙ line_first name (name_lines names ++ rest) (good_whole name a.0) ∙ ap (λ ls. name ∷ ls) (name_lines_lem names rest a.1)

-- the line of a type, without its end
abbrev pub own_line : List ℕ → List (List ℕ) → List (List ℕ)
own_line name [] = []
own_line name (base ∷ bases) = (name ++ parted (codes " < ") (base ∷ bases)) ∷ []

abbrev pub type_texts : List Link → List (List ℕ) → ℕ → List (List ℕ) → List (List ℕ)
type_texts links all first [] = []
type_texts links all first (name ∷ names) = own_line name (base_names links first 0 all) ++ type_texts links all (first + 1) names

pub good_bases : (links : List Link) (t first : ℕ) (names : List (List ℕ)) → AllByRecursion Good names → AllByRecursion Good (base_names links t first names)
good_bases links t first [] a = tt
good_bases links t first (name ∷ names) a = by_test (has_link links t first) (good_bases links t (first + 1) names a.1)
  where
    by_test : (x : Bool) → AllByRecursion Good (base_names links t (first + 1) names) → AllByRecursion Good (cond x (name ∷ base_names links t (first + 1) names) (base_names links t (first + 1) names))
    by_test true h = (a.0, h)
    by_test false h = h

parted_whole : (separator : List ℕ) (bases : List (List ℕ)) → NoEnd separator → AllByRecursion Good bases → NoEnd (parted separator bases)
parted_whole separator [] h a = tt
parted_whole separator (base ∷ bases) h a =
    All-append Whole separator (base ++ parted (codes ", ") bases) h (All-append Whole base (parted (codes ", ") bases) (good_whole base a.0) (parted_whole (codes ", ") bases (refl, (refl, tt)) a.1))

own_line_lem : (name : List ℕ) (bases : List (List ℕ)) (rest : List ℕ) → Good name → AllByRecursion Good bases → lines_of (type_line name bases ++ rest) ≡ own_line name bases ++ lines_of rest
own_line_lem name [] rest g a = refl
own_line_lem name (base ∷ bases) rest g a =
    let text = parted (codes " < ") (base ∷ bases) in
    let whole : NoEnd (name ++ text) = All-append Whole name text (good_whole name g) (parted_whole (codes " < ") (base ∷ bases) (refl, (refl, (refl, tt))) a) in
    ap (λ l. lines_of (l ++ rest)) (sym (append_assoc name text (newline ∷ []))) ∙ ap lines_of (append_assoc (name ++ text) (newline ∷ []) rest) ∙ line_first (name ++ text) rest whole

pub type_lines_lem : (links : List Link) (all : List (List ℕ)) (first : ℕ) (names : List (List ℕ)) → AllByRecursion Good all → AllByRecursion Good names → lines_of (type_lines links all first names) ≡ type_texts links all first names ++ ([] ∷ [])
type_lines_lem links all first [] a b = refl
type_lines_lem links all first (name ∷ names) a b =
    own_line_lem name (base_names links first 0 all) (type_lines links all (first + 1) names) b.0 (good_bases links first 0 all a)
    ∙ ap (λ ls. own_line name (base_names links first 0 all) ++ ls) (type_lines_lem links all (first + 1) names a b.1)
    ∙ sym (append_assoc (own_line name (base_names links first 0 all)) (type_texts links all (first + 1) names) ([] ∷ []))

pub printed_lines : (names : List (List ℕ)) (links : List Link) → AllByRecursion Good names → lines_of (printed names links) ≡ names ++ (type_texts links names 0 names ++ ([] ∷ []))
printed_lines names links a = name_lines_lem names (type_lines links names 0 names) a ∙ ap (λ ls. names ++ ls) (type_lines_lem links names 0 names a a)
