use Rattle.std.proofs.Common.{[], get_or, sym, refl, ap, ◌∙◌, arith}
use Rattle.grammar.specs.declared.declaration.Name.{Name}
use Rattle.register.specs.Places.{no_base}
use Rattle.register.specs.Contents.{contents_of}
use Rattle.register.proofs.Growth.{grown_refl}
use Rattle.register.proofs.Going.{bases_on}
use Rattle.register.proofs.register.Register.enter_bases.Goals as goal

pub loop-base-init : goal.loop-base-init
loop-base-init c = record { grown = grown_refl (contents_of c.args.self.now); lacks = refl; enters = refl }

pub loop-base-preserved : goal.loop-base-preserved
loop-base-preserved c =
    let here = contents_of c.loop-base.self in
    let line = c.args.line in
    let any : Name = record { column = 0; bytes = record { ref_ptr = (0, 0); now = [] } } in
    let base = get_or c.args.bases.now c.loop-base.base-index any in
    let h = c.in_ok-enter_base.ensures in
    bases_on line.source line.number c.args.from c.args.bases.now c.loop-base.base-index any (omega arith) c.loop-base.invariant
    (sym (ap (no_base here.room c.args.from here.entries base.bytes.now) c.at.ensures) ∙ h.0) h.1
