-- How long a printed text is.
use Rattle.std.proofs.Common.{◌≡◌, ℕ, ◌+◌, ◌*◌, ◌≤◌, Bool, true, false, cond, List, [], ◌∷◌, length, refl, arith}
use Rattle.std.specs.List.{AllByRecursion}
use Rattle.std.proofs.lemmas.List.{length-append}
use Rattle.descent.specs.declared.link.Link.{Link}
use Rattle.descent.specs.Links.{link}
use Rattle.hierarchy.specs.Entering.{has_link}
use Rattle.names.specs.Tables.{bytes_of}
use Rattle.printing.specs.Printed.{name_lines, base_names, type_line, type_lines, printed}
use Rattle.printing.proofs.Bounds.{names_long, line_long}
use Rattle.printing_meaning.proofs.Lawful.{Good}
use Rattle.printing_meaning.proofs.PrintedLinks.{base_links, type_links}
use Rattle.printing_meaning.proofs.TextLines.{good_bases}

good_short : (names : List (List ℕ)) → AllByRecursion Good names → length (bytes_of names) ≤ 64 * length names
good_short [] a = omega arith
good_short (name ∷ names) a = omega (arith, a.0.short, good_short names a.1, length-append name (bytes_of names))

-- there is a link for each base
as_many : (links : List Link) (t first : ℕ) (names : List (List ℕ)) → length (base_names links t first names) ≡ length (base_links links t first names)
as_many links t first [] = refl
as_many links t first (name ∷ names) = by_test (has_link links t first) (as_many links t (first + 1) names)
  where
    bases : List (List ℕ)
    bases = base_names links t (first + 1) names

    more : List Link
    more = base_links links t (first + 1) names

    by_test : (x : Bool) → length bases ≡ length more → length (cond x (name ∷ bases) bases) ≡ length (cond x (link t first ∷ more) more)
    by_test true e = omega arith
    by_test false e = e

lines_long : (links : List Link) (all : List (List ℕ)) (first : ℕ) (names : List (List ℕ)) → AllByRecursion Good all → length (type_lines links all first names) ≤ length (bytes_of names) + (length names + 67 * length (type_links links all first names))
lines_long links all first [] a = omega arith
lines_long links all first (name ∷ names) a =
    let bases = base_names links first 0 all in
    omega (
      arith,
      line_long name bases,
      good_short bases (good_bases links first 0 all a),
      as_many links first 0 all,
      lines_long links all (first + 1) names a,
      length-append name (bytes_of names),
      length-append (type_line name bases) (type_lines links all (first + 1) names),
      length-append (base_links links first 0 all) (type_links links all (first + 1) names),
    )

pub printed_long : (names : List (List ℕ)) (links : List Link) → AllByRecursion Good names → length names ≤ 1024 → length (bytes_of names) ≤ 65536 → length (type_links links names 0 names) ≤ 8192 → length (printed names links) ≤ 1048576
printed_long names links a few short links_few =
    omega (arith, names_long names, lines_long links names 0 names a, length-append (name_lines names) (type_lines links names 0 names))
