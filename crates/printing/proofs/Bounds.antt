-- How many bytes the text of a book has at most.
use Rattle.std.proofs.Common.{◌≡◌, ℕ, suc, ◌+◌, ◌*◌, ◌<◌, ◌≤◌, Bool, true, false, cond, List, [], ◌∷◌, ◌++◌, length, codes, refl, suc-mul, mul-le-mul, arith}
use Rattle.std.proofs.lemmas.List.{length-append}
use Rattle.descent.specs.declared.link.Link.{Link}
use Rattle.hierarchy.specs.Entering.{has_link}
use Rattle.names.specs.Tables.{bytes_of}
use Rattle.printing.specs.Printed.{name_lines, base_names, parted, type_line, type_lines, printed}

pub names_long : (names : List (List ℕ)) → length (name_lines names) ≡ length (bytes_of names) + length names
names_long [] = refl
names_long (name ∷ names) = omega (arith, length-append name (10 ∷ name_lines names), length-append name (bytes_of names), names_long names)

-- the bases are some of the names
pub record SomeOf (bases names : List (List ℕ)) : Type 0 where
  pub few : length bases ≤ length names
  pub short : length (bytes_of bases) ≤ length (bytes_of names)

some_more : (t : Bool) (name : List ℕ) (bases names : List (List ℕ)) → SomeOf bases names → SomeOf (cond t (name ∷ bases) bases) (name ∷ names)
some_more true name bases names s =
    record { few = omega (arith, s.few); short = omega (arith, s.short, length-append name (bytes_of bases), length-append name (bytes_of names)) }
some_more false name bases names s = record { few = omega (arith, s.few); short = omega (arith, s.short, length-append name (bytes_of names)) }

pub some_of : (links : List Link) (t first : ℕ) (names : List (List ℕ)) → SomeOf (base_names links t first names) names
some_of links t first [] = record { few = omega arith; short = omega arith }
some_of links t first (name ∷ names) = some_more (has_link links t first) name (base_names links t (first + 1) names) names (some_of links t (first + 1) names)

pub parted_long : (separator : List ℕ) (bases : List (List ℕ)) → length separator ≤ 3 → length (parted separator bases) ≤ length (bytes_of bases) + 3 * length bases
parted_long separator [] h = omega arith
parted_long separator (base ∷ bases) h =
    omega (arith, length-append separator (base ++ parted (codes ", ") bases), length-append base (parted (codes ", ") bases), length-append base (bytes_of bases), parted_long (codes ", ") bases (omega arith))

pub line_long : (name : List ℕ) (bases : List (List ℕ)) → length (type_line name bases) ≤ length name + (length (bytes_of bases) + 3 * length bases + 1)
line_long name [] = omega arith
line_long name (base ∷ bases) =
    let text = parted (codes " < ") (base ∷ bases) in
    omega (arith, length-append name (text ++ (10 ∷ [])), length-append text (10 ∷ []), parted_long (codes " < ") (base ∷ bases) (omega arith))

lines_long : (links : List Link) (all : List (List ℕ)) (first : ℕ) (names : List (List ℕ)) → length (type_lines links all first names) ≤ length (bytes_of names) + length names * (length (bytes_of all) + 3 * length all + 1)
lines_long links all first [] = omega arith
lines_long links all first (name ∷ names) =
    let bases = base_names links first 0 all in
    let few = some_of links first 0 all in
    let most = length (bytes_of all) + 3 * length all + 1 in
    let line = line_long name bases in
    let lines = lines_long links all (first + 1) names in
    let n : suc (length names) * most ≡ most + length names * most = omega (arith, suc-mul (length names) most) in
    omega (arith, length-append (type_line name bases) (type_lines links all (first + 1) names), length-append name (bytes_of names), few.few, few.short)

pub printed-short : (names : List (List ℕ)) (links : List Link) → length names ≤ 1024 → length (bytes_of names) ≤ 65536 → length (printed names links) < 1000000000
printed-short names links few short =
    let most = length (bytes_of names) + 3 * length names + 1 in
    let all : length names * most ≤ 1024 * 68609 = mul-le-mul {m₂ = 68609} few (omega arith) in
    omega (arith, length-append (name_lines names) (type_lines links names 0 names), names_long names, lines_long links names 0 names)
