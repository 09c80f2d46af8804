use Rattle.std.proofs.Common.{◌≡◌, ◌++◌, map, drop, vec_items, codes}
use Rattle.grammar.specs.Declarations.{name_of}
use Rattle.vetting.specs.Vetting.{shown_bases}
use Rattle.vetting.proofs.write_bases.Given as goal

-- what is left to write completes what is written
abbrev pub invariant-loop-base : goal.invariant-loop-base
invariant-loop-base l = vec_items l.out ++ shown_bases l.separator (map name_of (drop l.base-index l.bases)) ≡ vec_items l.initial.out ++ shown_bases (codes " < ") (map name_of l.bases)
