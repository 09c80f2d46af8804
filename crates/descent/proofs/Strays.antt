-- What it means that a list of links has no stray end.
use Rattle.std.proofs.Common.{◌≡◌, ℕ, zero, suc, List, [], ◌∷◌, None, arith}
use Rattle.std.proofs.lemmas.Bool.Decides.{nat_tests}
use Rattle.descent.specs.declared.link.Link.{Link}
use Rattle.descent.specs.Links.{Within}
use Rattle.descent.specs.Refusals.{stray_end}

pub within_from_no_stray : (n : ℕ) (links : List Link) → stray_end n links ≡ None → Within links n
within_from_no_stray n [] none k h = omega arith
within_from_no_stray n (link ∷ links) none zero h = grind (arith, nat_tests)
within_from_no_stray n (link ∷ links) none (suc k) h = within_from_no_stray n links (grind (arith, nat_tests)) k (omega arith)
