use Rattle.walk.proofs.Sweeping.{still_apart}
use Rattle.walk.proofs.search.search.Goals as goal

pub returns-in-Still-clause-answer : goal.returns-in-Still-clause-answer
returns-in-Still-clause-answer c =
    let e = c.in-Still.ensures in
    still_apart c.args.links.now c.args.a c.args.b c.sweep.new.marks e.swept.1 (e.kept c.args.a c.loop.invariant.2) e.unseen
