use Rattle.std.proofs.Common.{arith}
use Rattle.names.specs.Held.{names_in}
use Rattle.names.proofs.Keeping.{marked_start}
use Rattle.names.proofs.Changing.{bytes_left}
use Rattle.names.proofs.names.Names.bytes_of_first.Goals as goal

pub returns-then-names-self-clause-bytes : goal.returns-then-names-self-clause-bytes
returns-then-names-self-clause-bytes c = marked_start c.args.self.now c.args.names c.index.result.now (omega arith) c.index.ensures

pub returns-then-names-self-clause-within : goal.returns-then-names-self-clause-within
returns-then-names-self-clause-within c =
    let n = c.args.self.now in
    omega (arith, marked_start n c.args.names c.index.result.now (omega arith) c.index.ensures, bytes_left (names_in n) c.args.names, n.in_use)
