use Rattle.std.proofs.Common.{sym}
use Rattle.register.specs.Contents.{contents_of}
use Rattle.nearest.proofs.Nearests.{asked}
use Rattle.nearest.proofs.nearest_by_names.Goals as goal

pub nearest_number-requires-clause-first : goal.nearest_number-requires-clause-first
nearest_number-requires-clause-first c =
    let d = contents_of c.args.register.now in
    (asked d.settled d.entries.names c.args.first.now c.args.second.now c.in_ok-a.a c.in_ok-a.b (sym c.in_ok-a.ensures)).0

pub nearest_number-requires-clause-second : goal.nearest_number-requires-clause-second
nearest_number-requires-clause-second c =
    let d = contents_of c.args.register.now in
    (asked d.settled d.entries.names c.args.first.now c.args.second.now c.in_ok-a.a c.in_ok-a.b (sym c.in_ok-a.ensures)).1
