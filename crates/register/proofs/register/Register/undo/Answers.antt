use Rattle.std.proofs.Common.{is_ok, ap, ◌∙◌}
use Rattle.register.specs.Contents.{contents_of}
use Rattle.register.proofs.Backing.{back_accepted}
use Rattle.register.proofs.register.Register.undo.Goals as goal

pub unwrap-requires : goal.unwrap-requires
unwrap-requires c = ap is_ok (c.take_back.ensures.answer ∙ back_accepted (contents_of c.args.self.now) c.args.types c.args.links c.requires.types c.requires.links c.requires.within)
