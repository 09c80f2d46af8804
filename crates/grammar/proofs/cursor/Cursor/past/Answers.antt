use Rattle.std.proofs.Common.{refl, arith}
use Rattle.grammar.proofs.Leading.{leads_on, leads_long}
use Rattle.grammar.proofs.cursor.Cursor.past.Goals as goal

pub returns-then-self-ge-MAX_NAME : goal.returns-then-self-ge-MAX_NAME
returns-then-self-ge-MAX_NAME c = let here = c.args.self in leads_long here.line.now here.from here.pos here.depth c.args.depth here.begun c.requires (omega arith) (omega arith)

pub returns : goal.returns
returns c =
    let here = c.args.self in
    ((refl, refl, omega arith), refl, leads_on here.line.now here.from here.pos here.depth c.args.depth here.begun c.requires (omega arith) (omega arith))
