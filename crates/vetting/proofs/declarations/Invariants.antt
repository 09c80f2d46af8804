use Rattle.std.proofs.Common.{◌≡◌, ◌+◌, ◌≤◌, length}
use Rattle.std.specs.Option.{option_map}
use Rattle.texts.specs.Texts.{lines_of}
use Rattle.texts.specs.Lines.{lines_left}
use Rattle.vetting.specs.Vetting.{with_lines, none}
use Rattle.vetting.specs.Tallies.{tally_of}
use Rattle.vetting.proofs.declarations.Given as goal

-- the lines that are left complete the tally
abbrev pub invariant-loop-line : goal.invariant-loop-line
invariant-loop-line l =
    (goal.iterator-loop-line).can_next l.line-iterator × (goal.iterator-loop-line).is_finite l.line-iterator
    × (with_lines (tally_of l.tally) (lines_left (option_map (λ x. x.now) l.line-iterator.rest)) ≡ with_lines none (lines_of l.text))
    × (l.tally.lines + length (lines_left (option_map (λ x. x.now) l.line-iterator.rest)) ≤ length l.text + 1)
