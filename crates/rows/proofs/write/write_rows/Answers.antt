use Rattle.std.proofs.Common.{◌≡◌, ℕ, ◌*◌, ◌<◌, take, length, sym, ap, ◌∙◌, subst, arith, rules, length-take}
use Rattle.std.specs.Iterator.Adapters.{rev_source}
use Rattle.descent.specs.Links.{Linked}
use Rattle.descent.specs.Trims.{ones}
use Rattle.rows.specs.Layouts.{links_in}
use Rattle.rows.specs.Steps.{Whole, Outside, KeptFrom}
use Rattle.rows.proofs.LaidOut.{laid_out}
use Rattle.rows.proofs.Passing.{Passed, last_left, passed_more, bases_stand, end_rows, end_kept, drop_same}
use Rattle.rows.proofs.write.write_rows.Goals as goal

pub write_row-requires-clause-bases : goal.write_row-requires-clause-bases
write_row-requires-clause-bases c =
    let layout = c.args.layout.now in
    let left = (rev_source c.next.new.self).rest.now in
    let r = length left in
    let l = last_left layout.order.now left (rev_source c.loop-t.t-iterator).rest.now c.in-Some.t.now c.in-Some.ensures.steps c.loop-t.invariant.3 in
    let below : r < layout.types = omega (arith, l.0, ap length c.loop-t.invariant.3, length-take (length (rev_source c.loop-t.t-iterator).rest.now) layout.order.now, layout.ranked.long) in
    subst (λ (t : ℕ). (b : ℕ) → Linked (links_in layout) t b → Whole layout c.loop-t.index b) (sym l.1)
    (bases_stand (laid_out layout) c.args.kept.now c.args.index.now r below c.loop-t.kept c.loop-t.index
    (subst (λ (x : ℕ). Passed layout x c.args.kept.now c.loop-t.kept c.args.index.now c.loop-t.index) l.0 c.loop-t.invariant.2))

pub loop-t-preserved : goal.loop-t-preserved
loop-t-preserved c =
    let layout = c.args.layout.now in
    let left = (rev_source c.next.new.self).rest.now in
    let r = length left in
    let l = last_left layout.order.now left (rev_source c.loop-t.t-iterator).rest.now c.in-Some.t.now c.in-Some.ensures.steps c.loop-t.invariant.3 in
    let below : r < layout.types = omega (arith, l.0, ap length c.loop-t.invariant.3, length-take (length (rev_source c.loop-t.t-iterator).rest.now) layout.order.now, layout.ranked.long) in
    let w = c.write_row.ensures in (
      tt,
      tt,
      passed_more (laid_out layout) c.args.kept.now c.args.index.now r below c.loop-t.kept c.loop-t.index
          (subst (λ (x : ℕ). Passed layout x c.args.kept.now c.loop-t.kept c.args.index.now c.loop-t.index) l.0 c.loop-t.invariant.2)
          c.write_row.new.kept c.write_row.new.index (subst (Whole layout c.write_row.new.index) l.1 w.row)
          (subst (λ (t : ℕ). Outside layout.chains t c.loop-t.index c.write_row.new.index) l.1 w.outside)
          (subst (λ (t : ℕ). KeptFrom layout t layout.types c.loop-t.kept c.write_row.new.kept) l.1 w.kept),
      l.2,
      w.slots_rest ∙ c.loop-t.invariant.4,
    )

pub returns : goal.returns
returns c =
    let layout = c.args.layout.now in
    let links = links_in layout in
    let kept = c.loop-t.kept in
    let none : length (rev_source c.loop-t.t-iterator).rest.now ≡ 0 = c.in-None.ensures.steps.0 in
    let passed : Passed layout 0 c.args.kept.now kept c.args.index.now c.loop-t.index =
    subst (λ (x : ℕ). Passed layout x c.args.kept.now kept c.args.index.now c.loop-t.index) none c.loop-t.invariant.2 in
    let written = end_kept (laid_out layout) c.args.kept.now c.args.index.now kept c.loop-t.index passed (omega arith) in
    let counted : c.count.result ≡ ones (take (length links) kept) = search rules in
    record {
      count = counted ∙ ap ones written;
      kept = written;
      kept_rest = drop_same (length links) kept c.args.kept.now (omega arith) passed.entries_rest;
      rows = end_rows (laid_out layout) c.args.kept.now c.args.index.now kept c.loop-t.index passed (omega arith);
      rows_rest = drop_same (layout.types * layout.chains) c.loop-t.index c.args.index.now (omega arith) passed.rows_rest;
      slots_rest = c.loop-t.invariant.4;
    }
