use Rattle.std.proofs.Common.{◌≡◌, suc, ap, ◌∙◌, arith}
use Rattle.std.specs.List.{slice_get}
use Rattle.std.proofs.lemmas.Iterator.Consumers.{nth_from_yields_List}
use Rattle.texts.specs.Texts.{lines_of, text_of, line_at}
use Rattle.texts.proofs.Lines.{lines_road}
use Rattle.texts.proofs.text.faulty_line.Goals as goal

pub returns : goal.returns
returns c =
    let place = c.args.place in
    let n = c.in_ok-before.before in
    let below = c.in_ok-before.ensures in
    let line : suc n ≡ place.line = omega arith in
    nth_from_yields_List c.nth.result c.nth.new.self n c.nth.ensures.ran (lines_road c.of.result)
    ∙ ap (λ ls. slice_get ls n) (c.of.ensures ∙ ap lines_of c.text_of-text.ensures)
    ∙ ap (line_at (lines_of (text_of place.source c.args.shipped.now c.args.own.now))) line
