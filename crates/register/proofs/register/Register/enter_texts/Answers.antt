use Rattle.texts.specs.Texts.{lines_of}
use Rattle.texts.specs.declared.refusal.Source.TheVariants.{Shipped}
use Rattle.register.specs.Contents.{contents_of}
use Rattle.register.specs.Places.{no_lines}
use Rattle.register.proofs.Going.{texts-then}
use Rattle.register.proofs.register.Register.enter_texts.Goals as goal

pub returns : goal.returns
returns c =
    let start = contents_of c.args.self.now in
    let h = c.in_ok-enter_text.ensures in
    texts-then start (contents_of c.enter_text.new.self) (contents_of c.enter_text-2.new.self) (no_lines start.room Shipped 1 start.entries (lines_of c.args.shipped.now)) (lines_of c.args.shipped.now) (lines_of c.args.own.now) c.enter_text-2.result h.0 h.1 c.enter_text-2.ensures
