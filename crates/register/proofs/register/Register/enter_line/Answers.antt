use Rattle.register.specs.Contents.{contents_of}
use Rattle.register.proofs.Growth.{grown_refl}
use Rattle.register.proofs.register.Register.enter_line.Goals as goal

pub returns-in-Err-NoMemory : goal.returns-in-Err-NoMemory
returns-in-Err-NoMemory c = grown_refl (contents_of c.args.self.now)
