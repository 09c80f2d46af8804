use Rattle.std.proofs.Common.{arith}
use Rattle.names.specs.Held.{names_in}
use Rattle.names.proofs.Keeping.{holds_itself}
use Rattle.names.specs.declared.names.Names.{Names}
use Rattle.std.proofs.Common.{List, ◌<◌, length}
use Rattle.descent.specs.declared.link.Link.{Link}
use Rattle.rows.specs.KeptEntries.{marked}
use Rattle.printing.specs.Printed.{printed}
use Rattle.printing.proofs.Bounds.{printed-short}
use Rattle.printing.proofs.print.Goals as goal

-- the text of a book ends far below the largest number
short : (n : Names) (links : List Link) → length (printed (names_in n) links) < 1000000000
short n links = let h = holds_itself n in printed-short (names_in n) links h.few_types.1 h.few_bytes.1

pub put-requires : goal.put-requires
put-requires c = omega (arith, short c.args.names.now (marked c.args.kept.now c.args.links.now))

pub put-requires-2 : goal.put-requires-2
put-requires-2 c = omega (arith, short c.args.names.now (marked c.args.kept.now c.args.links.now))
