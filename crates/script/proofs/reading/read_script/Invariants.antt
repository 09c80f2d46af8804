use Rattle.std.proofs.Common.{◌≡◌, false}
use Rattle.std.specs.Option.{option_map}
use Rattle.texts.specs.Lines.{lines_left}
use Rattle.script.specs.Reading.{reading_of, with_lines, script_of}
use Rattle.script.proofs.reading.read_script.Given as goal

-- the lines that are left complete the script
abbrev pub invariant-loop-line : goal.invariant-loop-line
invariant-loop-line l =
    (goal.iterator-loop-line).can_next l.line-iterator × (goal.iterator-loop-line).is_finite l.line-iterator
    × (with_lines false (reading_of l.script) (lines_left (option_map (λ x. x.now) l.line-iterator.rest)) ≡ script_of l.input)
