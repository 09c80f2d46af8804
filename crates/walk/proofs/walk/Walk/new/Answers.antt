use Rattle.std.proofs.Common.{sym}
use Rattle.descent.proofs.Strays.{within_from_no_stray}
use Rattle.walk.proofs.walk.Walk.new.Goals as goal

pub invariant_of-result-clause-within : goal.invariant_of-result-clause-within
invariant_of-result-clause-within c = within_from_no_stray c.args.types c.args.links.now (sym c.in_default.ensures)
