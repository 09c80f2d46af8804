use Rattle.std.proofs.Common.{◌≡◌, ◌+◌}
use Rattle.std.specs.Option.{option_map}
use Rattle.std.specs.Iterator.Adapters.{enumerate_source, enumerate_count}
use Rattle.texts.specs.Texts.{lines_of, checked_lines}
use Rattle.texts.specs.Lines.{lines_left}
use Rattle.texts.proofs.text.check_lines.Given as goal

-- the lines that are left decide
abbrev pub invariant-loop-before : goal.invariant-loop-before
invariant-loop-before l =
    (goal.iterator-loop-before).can_next l.before-iterator × (goal.iterator-loop-before).is_finite l.before-iterator
    × (checked_lines l.source (enumerate_count l.before-iterator + 1) (lines_left (option_map (λ x. x.now) (enumerate_source l.before-iterator).rest)) ≡ checked_lines l.source 1 (lines_of l.text))
