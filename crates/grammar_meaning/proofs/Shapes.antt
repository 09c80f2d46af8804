-- What has been read of a line, in the grammar's words, where the reading is not stuck.
use Rattle.std.proofs.Common.{◌≡◌, ℕ, ◌+◌, List, [], ◌∷◌, ◌++◌, length, sym, ◌∙◌, subst, append_assoc, arith, length-append}
use Rattle.grammar.specs.Bytes.{space, hash, comma, less}
use Rattle.grammar.specs.Grammar.{Named, named, Name, Printable, Bases, more_bases, Line, under}
use Rattle.grammar_meaning.specs.BadPlaces.{Before, sign, next, Declares}
use Rattle.grammar.specs.Reading.{Part, first, base, Mode, State, start, comment, in_name, spaced, signed, parted, stuck, Memory, nothing}
use Rattle.grammar_meaning.proofs.Lists.{Level, not_empty}
use Rattle.grammar_meaning.proofs.Unfinished.{Unfinished}

-- what may stand before bases, and the names that it holds
pub record Headed (before : List ℕ) (names : List Named) : Type 0 where
  pub place : Before before
  pub some : before ≡ [] → ⊥
  pub makes : (bs : List ℕ) (ns : List Named) → Bases (length before + 1) bs ns → Line (before ++ bs) (names ++ ns)

-- it ends in ` < ` after the first name, or in `, ` after a base
pub headed_sign : (n : List ℕ) → Name n → Headed (n ++ (space ∷ less ∷ space ∷ [])) (named 1 n ∷ [])
headed_sign n x = record {
  place = sign x;
  some = not_empty n (less ∷ space ∷ []) space;
  makes = λ bs ns y.
      let at : length (n ++ (space ∷ less ∷ space ∷ [])) + 1 ≡ length n + 4 = omega (arith, length-append n (space ∷ less ∷ space ∷ [])) in
      subst (λ l. Line l (named 1 n ∷ ns)) (sym (append_assoc n (space ∷ less ∷ space ∷ []) bs)) (under x (subst (λ c. Bases c bs ns) at y));
}

pub headed_next : (before n : List ℕ) (names : List Named) → Headed before names → Name n → Headed (before ++ (n ++ (comma ∷ space ∷ []))) (names ++ (named (length before + 1) n ∷ []))
headed_next before n names h x = record {
  place = next h.place h.some x;
  some = λ e. not_empty (before ++ n) (space ∷ []) comma (append_assoc before n (comma ∷ space ∷ []) ∙ e);
  makes = λ bs ns y.
      let at : length (before ++ (n ++ (comma ∷ space ∷ []))) + 1 ≡ length before + 1 + length n + 2 =
      omega (arith, length-append before (n ++ (comma ∷ space ∷ [])), length-append n (comma ∷ space ∷ [])) in
      simp append_assoc (h.makes (n ++ (comma ∷ space ∷ bs)) (named (length before + 1) n ∷ ns) (more_bases x (subst (λ c. Bases c bs ns) at y)));
}

-- what stands before a name of that part
abbrev pub Outside : Part → List ℕ → List Named → Type 0
Outside first before names = (before ≡ []) × (names ≡ [])
Outside base before names = Headed before names

-- no continuation makes a comment of it
abbrev pub Declaring : List ℕ → Type 0
Declaring front = (rest : List ℕ) → Declares (front ++ rest)

-- in a name of that part: the name's bytes so far are kept, and stand after all that is before it
pub record Inside (p : Part) (m : Mode) (d : ℕ) (front : List ℕ) (memory : Memory) : Type 0 where
  pub before : List ℕ
  pub splits : front ≡ before ++ memory.kept
  pub outside : Outside p before memory.names
  pub begins_at : memory.from ≡ length before + 1
  pub unfinished : Unfinished m d memory.kept
  pub depth : Level memory.kept d
  pub level : Level before 0
  pub declaring : Declaring front

-- between two names, where a list of bytes is to follow before the next
pub record Between (gap front : List ℕ) (memory : Memory) : Type 0 where
  pub headed : Headed (front ++ gap) memory.names
  pub nothing_kept : memory.kept ≡ []
  pub level : Level front 0
  pub declaring : Declaring front

pub record Comment (front : List ℕ) (memory : Memory) : Type 0 where
  pub rest : List ℕ
  pub splits : front ≡ hash ∷ rest
  pub prints : Printable rest
  pub blank : memory ≡ nothing

-- what a front looks like that led to a state
abbrev pub Shape : List ℕ → State → Memory → Type 0
Shape front start m = (front ≡ []) × (m ≡ nothing)
Shape front comment m = Comment front m
Shape front (in_name p mode d) m = Inside p mode d front m
Shape front spaced m = Between (less ∷ space ∷ []) front m
Shape front signed m = Between (space ∷ []) front m
Shape front parted m = Between (space ∷ []) front m
Shape front stuck m = Unit {0}
