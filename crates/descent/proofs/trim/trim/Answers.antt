use Rattle.std.proofs.Common.{◌<◌, length, get_or, sym, ◌∙◌, subst, arith}
use Rattle.descent.specs.Links.{no_link, Within}
use Rattle.descent.specs.Trims.{Flag, Implied}
use Rattle.descent.proofs.Flagging.{keeps_trans, flagged_more, rest_more, flag_like, trim_within, trim_room}
use Rattle.descent.proofs.trim.trim.Goals as goal

pub flag-requires : goal.flag-requires
flag-requires g c =
    let links = c.args.links.now in
    let within : Within links (g.A.Answerer.count c.loop-i.answerer) =
    subst (Within links) (c.types.ensures ∙ sym c.loop-i.invariant.kept.same_count) (trim_within c.types.result links (length c.args.flags.now) c.in_ok-check_trim.ensures) in
    record { links = within; link = (within c.loop-i.i c.loop-i-test.true).1 }

pub loop-i-preserved : goal.loop-i-preserved
loop-i-preserved g c =
    let m = g.A.Answerer in
    let links = c.args.links.now in
    let s0 = c.args.answerer.now in
    let s1 = c.loop-i.answerer in
    let i = c.loop-i.i in
    let v = c.flag.result in
    let flags = c.loop-i.flags in
    let inv = c.loop-i.invariant in
    let e = c.flag.ensures in
    let room : i < length flags = omega (arith, trim_room c.types.result links (length c.args.flags.now) c.in_ok-check_trim.ensures) in
    let here : Flag v (Implied links (m.relates s0) (get_or links i no_link)) = flag_like links (m.relates s1) (m.relates s0) (get_or links i no_link) v inv.kept.same_relation e.flag in
    record {
      kept = keeps_trans m.count m.relates s0 s1 c.flag.new.answerer inv.kept e.kept;
      flagged = flagged_more links (m.relates s0) flags i v room inv.flagged here;
      rest = rest_more links (m.relates s0) flags i v room c.args.flags.now inv.rest;
    }
