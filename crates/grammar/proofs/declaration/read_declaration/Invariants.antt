use Rattle.std.proofs.Common.{◌≡◌, ◌∷◌, map, vec_items}
use Rattle.grammar.specs.Reading.{first, in_name, fresh, nothing}
use Rattle.grammar.specs.Posts.{onward}
use Rattle.grammar.specs.Declarations.{name_of}
use Rattle.grammar.specs.Bases.{left_of}
use Rattle.grammar.proofs.declaration.read_declaration.Given as goal

-- the reading comes to what is left, with the names read so far
abbrev pub invariant-loop-base : goal.invariant-loop-base
invariant-loop-base l =
    (goal.iterator-loop-base).can_next l.base-iterator × (goal.iterator-loop-base).is_finite l.base-iterator
    × (l.base-iterator.line.now ≡ l.line)
    × (onward l.line 0 (in_name first fresh 0) nothing ≡ left_of l.line l.base-iterator.start (name_of l.name ∷ map name_of (vec_items l.bases)))
