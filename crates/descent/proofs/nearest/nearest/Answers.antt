use Rattle.std.proofs.Common.{arith, rules}
use Rattle.descent.proofs.Bases.{no_common_base}
use Rattle.descent.proofs.nearest.nearest.Goals as goal

pub returns-clause-answer : goal.returns-clause-answer
returns-clause-answer g c =
    let m = g.A.Answerer in
    let s = c.args.answerer.now in
    (search rules, no_common_base (m.count s) (m.relates s) c.args.a c.args.b (m.laws.reflexive s) (m.laws.transitive s) (λ x h. c.bases.invariant.undercut x (omega (arith, c.types-types.ensures, c.bases-test.false))))
