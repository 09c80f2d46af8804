use Rattle.std.proofs.Common.{◌≡◌, ◌+◌, sym, ap, ◌∙◌, ⊎_elim, arith}
use Rattle.std.specs.Option.{unwrap_or}
use Rattle.std.proofs.lemmas.Bool.{cases_eq}
use Rattle.std.proofs.lemmas.Grind.{common_steps}
use Rattle.order.specs.Down.{unranked, down, walked}
use Rattle.order.proofs.Rankings.{rest_more}
use Rattle.order.proofs.Rounds.{walked_more}
use Rattle.order.proofs.looping.Stuck.write_round.Goals as goal

pub loop-i-preserved : goal.loop-i-preserved
loop-i-preserved c =
    let s = c.args.self.now in
    let step = down s.links.now (unranked s.rank.now) in
    let i = c.loop-i.i in
    let inv = c.loop-i.invariant in
    let here : c.unwrap_or-at.result ≡ walked step c.args.start (i + 1) =
    c.unwrap_or-at.ensures ∙ ap (λ o. unwrap_or o c.loop-i.at) c.unranked_subtype.ensures ∙ ap step inv.here ∙ sym (walked_more step c.args.start i) in
    record {
      here = here;
      written = grind (arith, common_steps);
      first = λ j g h e.
          ⊎_elim
          (λ (q : j ≡ i + 1). c.if-at-start.false (here ∙ ap (walked step c.args.start) (sym q) ∙ e))
          (λ (q : j ≡ i + 1 → ⊥). inv.first j g (omega arith) e)
          (cases_eq j (i + 1));
      rest = rest_more c.loop-i.table c.args.table.now i c.loop-i.at inv.rest;
    }
