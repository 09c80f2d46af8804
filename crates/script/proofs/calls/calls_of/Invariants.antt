use Rattle.std.proofs.Common.{◌≡◌, ◌++◌, map, drop, vec_items}
use Rattle.script.specs.Steps.{called_by, doing, calls_in}
use Rattle.script.proofs.calls.calls_of.Given as goal

-- the calls of the steps that are left complete the calls
abbrev pub invariant-loop-step : goal.invariant-loop-step
invariant-loop-step l = map called_by (vec_items l.calls) ++ calls_in (map doing (drop l.step-index l.steps)) ≡ calls_in (map doing l.steps)
