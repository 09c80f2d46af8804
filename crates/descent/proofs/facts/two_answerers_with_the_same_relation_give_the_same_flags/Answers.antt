use Rattle.std.proofs.Common.{◌≡◌, ◌≤◌, length, take, sym, ap, ◌∙◌, arith}
use Rattle.descent.specs.Trims.{ones}
use Rattle.descent.proofs.Flagging.{same_flags, trim_within, trim_room}
use Rattle.descent.proofs.facts.two_answerers_with_the_same_relation_give_the_same_flags.Goals as goal

pub returns : goal.returns
returns g c s u agree links before after before' after' kept kept' p q =
    let n = g.P.Answerer.count s in
    let room : length links ≤ length after = omega (arith, trim_room n links (length before) p.0, p.1) in
    let room' : length links ≤ length after' = omega (arith, trim_room (g.Q.Answerer.count u) links (length before') q.0, q.1) in
    let same : take (length links) after ≡ take (length links) after' =
    same_flags links n (trim_within n links (length before) p.0) (g.P.Answerer.relates s) (g.Q.Answerer.relates u) agree after after' room room' p.2 q.2 in
    (same, p.4 ∙ ap ones same ∙ sym q.4)
