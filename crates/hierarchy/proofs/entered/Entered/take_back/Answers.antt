use Rattle.std.proofs.Common.{◌≡◌, ◌≤◌, length, take, None, sym, ap, ◌∙◌, arith}
use Rattle.std.proofs.lemmas.Grind.{common_steps}
use Rattle.descent.specs.Refusals.{stray_end}
use Rattle.hierarchy.proofs.LinkTables.{within_left, distinct_left, zero_left}
use Rattle.hierarchy.proofs.entered.Entered.take_back.Goals as goal

pub invariant_of-self : goal.invariant_of-self
invariant_of-self c =
    let s = c.args.self.now in
    let xs = s.links.items in
    let k = c.args.links in
    let len = s.links.ok.0 in
    let fit : k ≤ length xs = omega arith in
    let none : stray_end c.args.types (take k xs) ≡ None = ap (λ l. stray_end c.args.types (take k l)) (sym c.deref.ensures.value) ∙ sym c.in_default.ensures in
    record {
      few_types = (omega arith, omega arith);
      few_links = (omega arith, omega arith);
      within = within_left _ xs k fit (grind (arith, common_steps)) c.args.types none;
      different = distinct_left _ xs k fit (grind (arith, common_steps)) s.count (omega arith) (omega arith) s.different;
      zeros = zero_left _ xs k fit (grind (arith, common_steps));
    }
