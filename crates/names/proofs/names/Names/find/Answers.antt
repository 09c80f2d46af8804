use Rattle.std.proofs.Common.{◌≡◌, ◌∙◌, ◌<◌, [], length, get_or, Some, sym, ap, zero-add, arith, rules}
use Rattle.std.proofs.iter.runs.Sources.{ranges, range_runs}
use Rattle.names.specs.Held.{names_in}
use Rattle.names.proofs.Keeping.{counted}
use Rattle.names.proofs.Search.{Without, first_found, none_found}
use Rattle.names.proofs.names.Names.find.Goals as goal

pub returns-in_err-number : goal.returns-in_err-number
returns-in_err-number c =
    let names = names_in c.args.self.now in
    let bytes = c.args.bytes.now in
    let run = c.find.ensures.runs.0 in
    let up = range_runs run run.seen in
    let e = c.in_err-number.was in
    let count = counted c.args.self.now in
    let none : Without names bytes (length names) = λ i h q. let at = up.3 i in search (rules, ranges) in
    c.from_residual.ensures ∙ sym (none_found 0 names bytes none)

pub returns : goal.returns
returns c =
    let names = names_in c.args.self.now in
    let bytes = c.args.bytes.now in
    let run = c.find.ensures.runs.0 in
    let up = range_runs run run.seen in
    let number = c.in_ok-number.number in
    let e = c.in_ok-number.was in
    let below : number < c.args.self.now.count = search (rules, ranges) in
    let here : get_or names number [] ≡ bytes = search (rules, ranges) in
    let before : Without names bytes number = λ j h q. let at = up.3 j in search (rules, ranges) in
    ap (λ k. Some k) (sym (zero-add number)) ∙ sym (first_found 0 names bytes number (omega (arith, counted c.args.self.now, below), here, before))
