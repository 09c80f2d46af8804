use Rattle.std.proofs.Common.{take, refl, ◌∙◌, arith}
use Rattle.chains.specs.Places.{places}
use Rattle.chains.proofs.Fronts.{front_take}
use Rattle.chains.proofs.Lines.{same_places}
use Rattle.chains.proofs.joining.JoiningDecomposer.decompose.Goals as goal

pub join_chains-requires-clause-chained : goal.join_chains-requires-clause-chained
join_chains-requires-clause-chained g c =
    let n = c.args.ranked.now.types in
    let d = c.decompose-count in
    g.met.D.Decomposer.meaning c.args.self.now.inner n c.args.ranked.now.links.now c.args.ranked.now.order.now c.args.ranked.now.rank.now
    (take n d.new.chain) (take n d.new.position) d.result c.args.ranked.now.few c.args.ranked.now.ranked d.ensures.given

pub returns-clause-given : goal.returns-clause-given
returns-clause-given g c =
    let n = c.args.ranked.now.types in
    let d = c.decompose-count in
    let j = c.join_chains in (
      places d.result (take n d.new.chain) (take n d.new.position),
      d.ensures.given,
      same_places refl (front_take d.new.chain j.new.chain n (omega (arith, d.auto.chain, c.requires.chain_room)) j.auto.chain)
          (front_take d.new.position j.new.position n (omega (arith, d.auto.position, c.requires.position_room)) j.auto.position)
          ∙ j.ensures.joined,
    )
