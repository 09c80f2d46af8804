use Rattle.std.proofs.Common.{arith}
use Rattle.hierarchy.proofs.LinkTables.{different_ends}
use Rattle.register.specs.declared.register.Register.{Register}
use Rattle.register.specs.Contents.{contents_of}
use Rattle.register.proofs.Backing.{links_within}
use Rattle.declarations.specs.Books.{state_of}
use Rattle.declarations.proofs.Settling.{Fit, settle_goes}
use Rattle.declarations.proofs.book.Book.settle.Goals as goal

fit : (r : Register) → Fit (contents_of r).entries
fit r = record {
  small = omega (arith, r.numbered.entered.few_types.1, r.named);
  within = links_within r;
  different = different_ends (contents_of r).entries.links r.numbered.entered.different;
}

pub returns-clause-told : goal.returns-clause-told
returns-clause-told g c =
    let self = c.args.self.now in
    settle_goes (g.D.Decomposer.gives c.args.decomposer.now) (g.met.D.Decomposer.meaning c.args.decomposer.now) (state_of self) (contents_of c.settle.new.self) (fit self.register) c.args.table.now c.args.scratch.now c.settle.new.table c.settle.new.scratch c.settle.auto.table c.settle.result c.settle.ensures
