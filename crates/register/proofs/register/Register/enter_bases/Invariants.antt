use Rattle.std.proofs.Common.{drop}
use Rattle.register.specs.Contents.{contents_of}
use Rattle.register.proofs.Going.{Going, bases_lack, bases_enter}
use Rattle.register.proofs.register.Register.enter_bases.Given as goal

-- the bases that are left decide
abbrev pub invariant-loop-base : goal.invariant-loop-base
invariant-loop-base l =
    Going (contents_of l.initial.self) (bases_lack l.line.source l.line.number l.from l.bases (contents_of l.initial.self)) (bases_enter l.from l.bases (contents_of l.initial.self))
    (bases_lack l.line.source l.line.number l.from (drop l.base-index l.bases)) (bases_enter l.from (drop l.base-index l.bases)) (contents_of l.self)
