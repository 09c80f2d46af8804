use Rattle.std.proofs.Common.{sym}
use Rattle.chains.proofs.FreeBases.{lowest_some, lowest_end}
use Rattle.chains.proofs.chain_order.next_base.Goals as goal

pub returns-then-lowest-ranked : goal.returns-then-lowest-ranked
returns-then-lowest-ranked c = sym (lowest_some c.args.ranked.now.ranked c.loop-link.invariant c.loop-link-test.false c.if-lowest-ranked.true)

pub returns-else-lowest-ranked : goal.returns-else-lowest-ranked
returns-else-lowest-ranked c = sym (lowest_end c.args.ranked.now.ranked c.loop-link.invariant c.loop-link-test.false c.if-lowest-ranked.false)
