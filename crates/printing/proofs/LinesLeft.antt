-- What is left to put, once a part of it was put.
use Rattle.std.proofs.Common.{◌≡◌, ℕ, ◌+◌, ◌<◌, ◌≤◌, List, [], ◌∷◌, ◌++◌, length, get_or, drop, codes, true, false, is_some, Some, None, Option, sym, ap, ◌∙◌, arith}
use Rattle.std.proofs.lemmas.List.{at_drop_more}
use Rattle.std.proofs.lemmas.Bool.{true≢false, false≢true}
use Rattle.descent.specs.declared.link.Link.{Link}
use Rattle.printing.specs.declared.book.Book.{Book}
use Rattle.printing.specs.declared.output.Output.{Output}
use Rattle.printing.specs.Books.{names_of, links_of}
use Rattle.printing.specs.Lowest.{lowest_end}
use Rattle.printing.specs.Printed.{name_lines, base_names, parted, type_line, type_lines}
use Rattle.printing.specs.Putting.{Puts}
use Rattle.printing.proofs.Lowests.{Lowest, next_is}
use Rattle.printing.proofs.BaseNames.{next_left, none_left}
use Rattle.printing.proofs.Putting.{Goes, goes_start, goes_as, goes_end}

module _ {now start : Output} {all : List ℕ} (names : List (List ℕ)) where
  -- the name of type i is next
  pub name_next : (i : ℕ) (name : List ℕ) → i < length names → name ≡ get_or names i [] → Goes (name_lines (drop i names)) now all start → Goes (name ++ (codes "\n" ++ name_lines (drop (i + 1) names))) now all start
  name_next i name h e g = goes_as _ (at_drop_more name_lines names i [] h ∙ ap (λ n. n ++ (codes "\n" ++ name_lines (drop (i + 1) names))) (sym e)) g

  module _ (links : List Link) where
    -- the line of type i is next
    pub line_next : (i : ℕ) → i < length names → Goes (type_lines links names i (drop i names)) now all start
        → Goes (type_line (get_or names i []) (base_names links i 0 names) ++ type_lines links names (i + 1) (drop (i + 1) names)) now all start
    line_next i h g = goes_as _ (at_drop_more (type_lines links names i) names i [] h) g

    module _ (t least : ℕ) (separator : List ℕ) (g : Goes (parted separator (base_names links t least (drop least names))) now all start) where
      -- the separator and the base b are next
      pub base_next : (b : ℕ) (name : List ℕ) → Lowest links t least (length names) (Some b) → name ≡ get_or names b []
          → Goes (separator ++ (name ++ parted (codes ", ") (base_names links t (b + 1) (drop (b + 1) names)))) now all start
      base_next b name next n =
          goes_as _ (ap (parted separator) (next_left links t names least b next) ∙ ap (λ x. separator ++ (x ++ parted (codes ", ") (base_names links t (b + 1) (drop (b + 1) names)))) (sym n)) g

      pub bases_over : least ≤ length names → Lowest links t least (length names) None → Goes [] now all start
      bases_over few none = goes_as [] (ap (parted separator) (none_left links t names least few none)) g

-- the line of a type, by the lowest of its bases
module _ (b : Book) (t : ℕ) where
  abbrev bases : List (List ℕ)
  bases = base_names (links_of b) t 0 (names_of b)

  abbrev name_in : List ℕ
  name_in = get_or (names_of b) t []

  line_from : (bs more : List (List ℕ)) (base : List ℕ) → bs ≡ base ∷ more → type_line name_in bs ≡ name_in ++ (parted (codes " < ") bs ++ codes "\n")
  line_from bs more base e = ap (type_line name_in) e ∙ ap (λ l. name_in ++ (parted (codes " < ") l ++ codes "\n")) (sym e)

  -- it has bases: its name is next, then its bases, and byte 10
  pub line_starts : (r : Option ℕ) → r ≡ lowest_end b.links.now b.kept.now t 0 (length (names_of b)) → is_some r ≡ true → (name : List ℕ) (start : Output) → name ≡ name_in
      → Goes (name ++ (parted (codes " < ") bases ++ codes "\n")) start (type_line name_in bases) start
  line_starts (Some base) e found name start is =
      goes_as _ (line_from bases _ _ (next_left (links_of b) t (names_of b) 0 base (next_is b t 0 (Some base) e)) ∙ ap (λ n. n ++ (parted (codes " < ") bases ++ codes "\n")) (sym is)) (goes_start _ start)
  line_starts None e found name start is = absurd (false≢true found)

  -- it has no bases, and so no line
  pub no_line : (r : Option ℕ) → r ≡ lowest_end b.links.now b.kept.now t 0 (length (names_of b)) → is_some r ≡ false → (start : Output) → Puts (type_line name_in bases) start start
  no_line None e none start = goes_end (goes_as [] (ap (type_line name_in) (none_left (links_of b) t (names_of b) 0 (omega arith) (next_is b t 0 None e))) (goes_start _ start))
  no_line (Some base) e none start = absurd (true≢false none)
