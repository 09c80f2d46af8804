use Rattle.std.proofs.Common.{◌≡◌, length, Ok, sym, ap, ◌∙◌, arith}
use Rattle.register.specs.Asking.{said_of}
use Rattle.register.specs.Contents.{contents_of}
use Rattle.register.proofs.Asking.{found_below, descent_told}
use Rattle.register.proofs.register.Register.ask.Goals as goal

pub ask-requires : goal.ask-requires
ask-requires c =
    let self = c.args.self.now in
    let start = contents_of self in
    let f = found_below start.settled start.entries.names c.args.first.now c.args.second.now (c.in_ok-a.a, c.in_ok-a.b) (sym c.in_ok-a.ensures) in
    let n : c.in_ok-index.index.types ≡ length start.entries.names = c.in_ok-index.ensures.types ∙ self.named in
    record { first = omega (arith, n, f.1); second = omega (arith, n, f.2) }

pub returns : goal.returns
returns c =
    let links = (contents_of c.args.self.now).entries.links in
    ap Ok (descent_told _ links c.in_ok-a.a c.in_ok-a.b c.ask.result c.in_ok-index.ensures.links c.ask.ensures.answer) ∙ ap (said_of links) c.in_ok-a.ensures
