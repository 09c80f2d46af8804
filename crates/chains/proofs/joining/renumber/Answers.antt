use Rattle.std.proofs.Common.{length, get_or, arith}
use Rattle.std.proofs.lemmas.List.FromFn.{fill_by_all}
use Rattle.chains.proofs.joining.renumber.Goals as goal

pub returns : goal.returns
returns c =
    fill_by_all (λ t. get_or c.args.number.now (get_or c.args.chain.now t 0) 0) c.loop-c.chain (length c.args.chain.now) 0 c.loop-c.auto.chain
    (λ k h. c.loop-c.invariant.0 k (omega arith))
