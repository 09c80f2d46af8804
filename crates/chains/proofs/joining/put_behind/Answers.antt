use Rattle.std.proofs.Common.{◌+◌, cond, eqb, length, get_or, refl, ◌∙◌, arith}
use Rattle.std.proofs.lemmas.List.FromFn.{fill_by_all}
use Rattle.chains.proofs.Lines.{same_places}
use Rattle.chains.proofs.joining.put_behind.Goals as goal

pub returns : goal.returns
returns c =
    let chain = c.args.chain.now in
    let position = c.args.position.now in
    let n = length chain in
    let u = c.args.u in
    let chains = fill_by_all (λ t. cond (eqb (get_or chain t 0) c.args.c) (get_or chain u 0) (get_or chain t 0)) c.loop-t.chain n 0 c.loop-t.auto.chain (λ k h. c.loop-t.invariant.0 k (omega arith)) in
    let positions = fill_by_all (λ t. cond (eqb (get_or chain t 0) c.args.c) (get_or position u 0 + 1 + get_or position t 0) (get_or position t 0)) c.loop-t.position n 0 (c.loop-t.auto.position ∙ c.requires.room) (λ k h. c.loop-t.invariant.1 k (omega arith)) in
    λ k. same_places {c = k} {c' = k} refl chains positions
