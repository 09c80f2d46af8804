use Rattle.std.proofs.Common.{◌+◌, ◌≤◌, length}
use Rattle.std.specs.Option.{option_map}
use Rattle.std.specs.Iterator.Adapters.{enumerate_source, enumerate_count}
use Rattle.texts.specs.Texts.{lines_of}
use Rattle.texts.specs.Lines.{lines_left}
use Rattle.register.specs.Contents.{contents_of}
use Rattle.register.proofs.Going.{Going, lines_lack, lines_enter}
use Rattle.register.proofs.register.Register.enter_text.Given as goal

-- the lines that are left decide
abbrev pub invariant-loop-before : goal.invariant-loop-before
invariant-loop-before l =
    (goal.iterator-loop-before).can_next l.before-iterator × (goal.iterator-loop-before).is_finite l.before-iterator
    × Going (contents_of l.initial.self) (lines_lack l.source 1 (lines_of l.text) (contents_of l.initial.self)) (lines_enter (lines_of l.text) (contents_of l.initial.self))
    (lines_lack l.source (enumerate_count l.before-iterator + 1) (lines_left (option_map (λ x. x.now) (enumerate_source l.before-iterator).rest)))
    (lines_enter (lines_left (option_map (λ x. x.now) (enumerate_source l.before-iterator).rest))) (contents_of l.self)
    × (enumerate_count l.before-iterator + length (lines_left (option_map (λ x. x.now) (enumerate_source l.before-iterator).rest)) ≤ length l.text + 1)
