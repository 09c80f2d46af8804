use Rattle.std.proofs.Common.{ℕ, List, take, sym, ◌∙◌, subst, arith}
use Rattle.std.proofs.lemmas.List.{take-take}
use Rattle.order.specs.Order.{order_of}
use Rattle.chains.specs.Ranked.{Ranked}
use Rattle.settling.proofs.Ranking.{whole_ranked}
use Rattle.settling.proofs.settle.settle_all.Goals as goal

pub write_entries-requires-clause-ranked : goal.write_entries-requires-clause-ranked
write_entries-requires-clause-ranked g c =
    let p = c.args.graph.now in
    let n = p.types in
    let links = p.links.now in
    let lay = c.in_ok-chains.ensures.laid.0 in
    subst (λ (o : List ℕ). Ranked n links o (take n c.lay_out.new.scratch)) (sym lay.ordered)
    (whole_ranked n links (take n c.lay_out.new.scratch) p.within lay.ranked p.few (take-take n n c.lay_out.new.scratch (omega arith) ∙ lay.ranks))

pub write_entries-requires-clause-chained : goal.write_entries-requires-clause-chained
write_entries-requires-clause-chained g c =
    let p = c.args.graph.now in
    let n = p.types in
    let links = p.links.now in
    let lay = c.in_ok-chains.ensures.laid.0 in
    let ranked = whole_ranked n links c.lay_out.new.scratch p.within lay.ranked p.few lay.ranks in
    g.met.D.Decomposer.meaning c.args.decomposer.now n links (order_of n links) c.lay_out.new.scratch (take n c.lay_out.new.chain) (take n c.lay_out.new.position) c.in_ok-chains.chains p.few ranked lay.given
