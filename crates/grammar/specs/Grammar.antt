-- The grammar of a line: which lists of bytes are words, names and lines, and which names a line holds.
use Rattle.std.specs.Prelude.{◌≡◌, ℕ, ◌+◌, true, List, [], ◌∷◌, ◌++◌, length}
use Rattle.grammar.specs.Bytes.{printable, begins, continues, space, hash, comma, less, opening, closing}

-- a name of a line: its bytes, and the column of the first of them
pub record Named : Type 0 where
  pub column : ℕ
  pub bytes : List ℕ

abbrev pub named : ℕ → List ℕ → Named
named c n = record { column = c; bytes = n }

-- letters, digits and `_`, perhaps none
pub data Tail : List ℕ → Type 0 where
  no_more : Tail []
  one_more : {b : ℕ} {bs : List ℕ} → continues b ≡ true → Tail bs → Tail (b ∷ bs)

-- a letter or `_`, then letters, digits or `_`
pub data Word : List ℕ → Type 0 where
  word : {b : ℕ} {bs : List ℕ} → begins b ≡ true → Tail bs → Word (b ∷ bs)

mutual
  -- a word; or a word, `[`, one or more names parted by `,`, and `]`
  pub data Name : List ℕ → Type 0 where
    plain : {w : List ℕ} → Word w → Name w
    applied : {w ns : List ℕ} → Word w → Arguments ns → Name (w ++ (opening ∷ (ns ++ (closing ∷ []))))

  pub data Arguments : List ℕ → Type 0 where
    last_one : {n : List ℕ} → Name n → Arguments n
    and_more : {n ns : List ℕ} → Name n → Arguments ns → Arguments (n ++ (comma ∷ ns))

-- bytes from 32 to 126, perhaps none
pub data Printable : List ℕ → Type 0 where
  none : Printable []
  also : {b : ℕ} {bs : List ℕ} → printable b ≡ true → Printable bs → Printable (b ∷ bs)

-- one or more names parted by `, `, from a column on
pub data Bases : ℕ → List ℕ → List Named → Type 0 where
  last_base : {c : ℕ} {n : List ℕ} → Name n → Bases c n (named c n ∷ [])
  more_bases : {c : ℕ} {n bs : List ℕ} {ns : List Named} → Name n → Bases (c + length n + 2) bs ns → Bases c (n ++ (comma ∷ space ∷ bs)) (named c n ∷ ns)

-- empty; or `#` and then bytes from 32 to 126; or a name; or a name, ` < `, and one or more names parted by `, `
pub data Line : List ℕ → List Named → Type 0 where
  empty : Line [] []
  comment : {bs : List ℕ} → Printable bs → Line (hash ∷ bs) []
  bare : {n : List ℕ} → Name n → Line n (named 1 n ∷ [])
  under : {n bs : List ℕ} {ns : List Named} → Name n → Bases (length n + 4) bs ns → Line (n ++ (space ∷ less ∷ space ∷ bs)) (named 1 n ∷ ns)
