use Rattle.std.proofs.Common.{ℕ, refl, subst, inr, arith}
use Rattle.descent.specs.Links.{Descends}
use Rattle.descent.proofs.Descents.{descent_then_link}
use Rattle.walk.specs.declared.search.Progress.TheVariants.{Grew}
use Rattle.walk.proofs.Sweeping.{turn_marked, turn_passed, turn_at}
use Rattle.walk.proofs.search.sweep.Goals as goal
use Rattle.walk.proofs.search.sweep.Goals.{then-marks-from-ne0+then-marks-to-eq0+else-to-sought, else-marks-from-ne0, else-marks-from-ne0-via-then-marks-from-ne0+else-marks-to-eq0, else-marks-from-ne0-via-else-marks-from-ne0}

pub returns-then-to-sought-clause-swept : goal.returns-then-to-sought-clause-swept
returns-then-to-sought-clause-swept c a s =
    subst (λ (z : ℕ). Descends c.args.links.now a z) c.if-to-sought.true
    (inr (descent_then_link c.args.links.now a _ _ (c.loop-link.invariant.reached a s _ (omega (arith, c.if-marks-from-ne0.true))) (c.loop-link.link-index, c.loop-link-test.true, refl, refl)))

pub loop-link-preserved : goal.loop-link-preserved
loop-link-preserved c =
    let links = c.args.links.now in
    let i = c.loop-link.link-index in
    let turn = c.loop-link.invariant in
    elim c.if-marks-from-ne0.branch [
      | then-marks-from-ne0+then-marks-to-eq0+else-to-sought w ↦
          turn_at links _ _ _ _ Grew
          (turn_marked links _ _ i c.loop-link.marks c.loop-link.progress turn c.loop-link-test.true
          (omega (arith, (c.requires.within i c.loop-link-test.true).1)) (omega (arith, w.if-marks-from-ne0.true)) w.if-marks-to-eq0.true w.if-to-sought.false)
          _ _ w.marks-is w.progress-is
      | else-marks-from-ne0 w ↦
          turn_at links _ _ _ _ _
          (turn_passed links _ _ i c.loop-link.marks c.loop-link.progress turn
          (λ from. elim w.else-marks-from-ne0.branch [
            | else-marks-from-ne0-via-then-marks-from-ne0+else-marks-to-eq0 v ↦ omega (arith, v.if-marks-to-eq0.false)
            | else-marks-from-ne0-via-else-marks-from-ne0 v ↦ omega (arith, v.if-marks-from-ne0.false)
          ]))
          _ _ w.marks-is w.progress-is
    ]
