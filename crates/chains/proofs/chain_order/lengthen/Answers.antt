use Rattle.std.proofs.Common.{◌+◌, ◌-◌, ◌<◌, sym, ap, ◌∙◌, arith, length-set}
use Rattle.chains.specs.ChainOrder.{Line}
use Rattle.chains.proofs.Lines.{line, lengthened_none, lengthened_some}
use Rattle.chains.specs.NextBases.{next_base_some}
use Rattle.chains.proofs.chain_order.lengthen.Goals as goal

-- the base that was found is a type
found : (c : goal.In-Some) → c.in-Some.base < c.args.ranked.now.types
found c =
    (next_base_some c.args.ranked.now.types c.args.ranked.now.links.now c.args.ranked.now.order.now c.loop-step.chain c.loop-step.last c.in-Some.base
    (λ i h. (c.args.ranked.now.ranked.types i (omega (arith, c.args.ranked.now.ranked.long))).0) (sym c.in-Some.ensures)).0

pub bounds-chain-base : goal.bounds-chain-base
bounds-chain-base c = omega (arith, found c, c.loop-step.invariant.1)

pub bounds-position-base : goal.bounds-position-base
bounds-position-base c = omega (arith, found c, c.loop-step.invariant.2)

pub returns-in_default : goal.returns-in_default
returns-in_default c =
    let w = line c.loop-step.last c.loop-step.step c.loop-step.chain c.loop-step.position in
    let e = sym (lengthened_none c.args.ranked.now.links.now c.args.ranked.now.order.now c.args.c w (sym c.in_default.ensures) (c.args.ranked.now.types - c.loop-step.step)) ∙ c.loop-step.invariant.0 in
    record { chains = ap (λ (x : Line). x.chains) e; positions = ap (λ (x : Line). x.positions) e }

pub loop-step-preserved : goal.loop-step-preserved
loop-step-preserved c =
    let w = line c.loop-step.last c.loop-step.step c.loop-step.chain c.loop-step.position in (
      lengthened_some c.args.ranked.now.links.now c.args.ranked.now.order.now c.args.c w c.in-Some.base c.args.ranked.now.types c.loop-step.step c.loop-step-test.true c.in-Some.ensures ∙ c.loop-step.invariant.0,
      length-set c.loop-step.chain c.in-Some.base c.args.c ∙ c.loop-step.invariant.1,
      length-set c.loop-step.position c.in-Some.base (c.loop-step.step + 1) ∙ c.loop-step.invariant.2,
    )
