use Rattle.std.proofs.Common.{get_or, refl, inl}
use Rattle.descent.specs.Links.{no_link}
use Rattle.descent.proofs.trim.flag.Goals as goal

pub returns-then-ask-clause-flag : goal.returns-then-ask-clause-flag
returns-then-ask-clause-flag g c =
    let rival = c.if-is_rival.ensures in
    inl (refl, ((get_or c.args.links.now c.loop-k.k no_link).to, (c.loop-k.k, c.loop-k-test.true, rival.0, refl), rival.1, (c.loop-k.invariant.kept.same_relation _ _).0 c.if-ask.ensures.answer))
