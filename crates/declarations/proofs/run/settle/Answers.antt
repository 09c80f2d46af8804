use Rattle.std.proofs.Common.{length, ◌∙◌}
use Rattle.declarations.specs.Books.{state_of}
use Rattle.declarations.proofs.Setups.{settle_setup}
use Rattle.declarations.proofs.Running.{settle_moves}
use Rattle.declarations.proofs.run.settle.Goals as goal

pub returns : goal.returns
returns g c =
    let before = state_of c.args.book.now in
    let after = state_of c.settle-settled.new.self in
    let h = c.settle-settled.ensures in
    let Gives = g.D.Decomposer.gives c.args.decomposer.now in
    settle_moves Gives before after (length c.deref_mut.result.now) (length c.deref_mut-2.result.now) c.args.table c.args.scratch c.settle-settled.result
    (c.deref_mut.ensures.len ∙ c.in_ok-loop_table.ensures.len) (c.deref_mut-2.ensures.len ∙ c.in_ok-memory.ensures.len)
    h.told (settle_setup Gives before after c.deref_mut.result.now c.deref_mut-2.result.now c.settle-settled.new.table c.settle-settled.new.scratch c.settle-settled.result h.settles)
