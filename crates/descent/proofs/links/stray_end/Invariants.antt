use Rattle.std.proofs.Common.{◌≡◌, drop}
use Rattle.descent.specs.Refusals.{stray_end}
use Rattle.descent.proofs.links.stray_end.Given as goal

abbrev pub invariant-loop-link : goal.invariant-loop-link
invariant-loop-link l = stray_end l.types (drop l.link-index l.links) ≡ stray_end l.types l.links
