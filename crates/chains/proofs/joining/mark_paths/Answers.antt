use Rattle.std.proofs.Common.{ℕ, ◌+◌, List, sym, subst, arith, length-set}
use Rattle.chains.proofs.Marking.{Marking, known_falling, marking_skip, marking_more, marking_all}
use Rattle.chains.proofs.joining.mark_paths.Goals as goal
use Rattle.chains.proofs.joining.mark_paths.Goals.{then-marks-link-eq1, else-marks-link-eq1}

pub loop-k-preserved : goal.loop-k-preserved
loop-k-preserved c =
    let j = c.if-marks-link-eq1 in
    let P : List ℕ → Type 0 = λ m. Marking c.args.ranked.now.types c.args.ranked.now.links.now c.args.ranked.now.falling.now m c.args.t (c.loop-k.k-index + 1) in
    elim j.branch [
      | then-marks-link-eq1 w ↦ subst P (sym w.marks-is) (marking_more c.args.ranked.now.ranked (known_falling c.args.ranked.now.falls) c.loop-k.invariant c.loop-k-test.true (omega (arith, length-set c.fill.new.self c.args.t 1)) w.if-marks-link-eq1.true)
      | else-marks-link-eq1 w ↦ subst P (sym w.marks-is) (marking_skip c.args.ranked.now.ranked (known_falling c.args.ranked.now.falls) c.loop-k.invariant c.loop-k-test.true w.if-marks-link-eq1.false)
    ]

pub returns : goal.returns
returns c = marking_all (known_falling c.args.ranked.now.falls) c.loop-k.invariant c.loop-k-test.false
