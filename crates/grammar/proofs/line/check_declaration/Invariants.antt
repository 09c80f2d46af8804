use Rattle.std.proofs.Common.{◌≡◌, List}
use Rattle.grammar.specs.Grammar.{Named}
use Rattle.grammar.specs.Reading.{first, in_name, fresh, nothing}
use Rattle.grammar.specs.Posts.{onward}
use Rattle.grammar.specs.Bases.{left_of}
use Rattle.grammar.proofs.line.check_declaration.Given as goal

-- the reading comes to what is left, with some names read on the way
abbrev pub invariant-loop-base : goal.invariant-loop-base
invariant-loop-base l =
    (goal.iterator-loop-base).can_next l.base-iterator × (goal.iterator-loop-base).is_finite l.base-iterator
    × (l.base-iterator.line.now ≡ l.line)
    × ((ms : List Named) × (onward l.line 0 (in_name first fresh 0) nothing ≡ left_of l.line l.base-iterator.start ms))
