use Rattle.std.proofs.Common.{◌≡◌, ◌++◌, map, drop, vec_items}
use Rattle.std.specs.Slice.Iter.{iter_rest}
use Rattle.script.specs.Steps.{doing, shown_steps}
use Rattle.script.proofs.replay.print_steps.Given as goal

-- what is left to print completes what is printed
abbrev pub invariant-loop-step : goal.invariant-loop-step
invariant-loop-step l = vec_items l.printed ++ shown_steps (map doing (drop l.step-index l.steps)) (iter_rest l.left) ≡ shown_steps (map doing l.steps) l.answers
