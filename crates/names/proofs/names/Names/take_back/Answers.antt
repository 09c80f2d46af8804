use Rattle.std.proofs.Common.{◌≤◌, refl, ◌∙◌, ap, arith}
use Rattle.names.specs.Tables.{span, wiped}
use Rattle.names.proofs.Keeping.{holds_laid}
use Rattle.names.proofs.Laying.{laid_kept}
use Rattle.names.proofs.Padding.{part_wiped}
use Rattle.names.proofs.Changing.{laid_left}
use Rattle.names.proofs.names.Names.take_back.Goals as goal

pub invariant_of-self : goal.invariant_of-self
invariant_of-self c =
    let n = c.args.self.now in
    let left = c.args.left in
    let bytes = c.bytes_of_first-bytes.result in
    let few : left ≤ n.count = omega arith in
    let laid =
    laid_left n left bytes few c.bytes_of_first-bytes.ensures.bytes
    _ (part_wiped bytes c.deref_mut.result.now c.fill.new.self 0 n.used c.bytes_of_first-bytes.ensures.within (omega (arith, n.in_pool, c.deref_mut.ensures.len)) (c.fill.ensures.after (λ y e. e)) ∙ ap (wiped 0 bytes n.used) c.deref_mut.ensures.value)
    _ (part_wiped left c.deref_mut-2.result.now c.fill-2.new.self (span 0 0) n.count few (omega (arith, n.in_table, c.deref_mut-2.ensures.len)) (c.fill-2.ensures.after (λ y e. e)) ∙ ap (wiped (span 0 0) left n.count) c.deref_mut-2.ensures.value) in
    let kept = laid_kept _ _ _ _ _ _ _ laid in
    record { in_table = laid.in_table; few_types = laid.few_types; in_pool = laid.in_pool; few_bytes = laid.few_bytes; in_use = kept.0; whole_pool = kept.1; whole_table = kept.2; different = kept.3 }

pub returns-clause-after : goal.returns-clause-after
returns-clause-after c =
    let n = c.args.self.now in
    let left = c.args.left in
    let bytes = c.bytes_of_first-bytes.result in
    let few : left ≤ n.count = omega arith in
    let laid =
    laid_left n left bytes few c.bytes_of_first-bytes.ensures.bytes
    _ (part_wiped bytes c.deref_mut.result.now c.fill.new.self 0 n.used c.bytes_of_first-bytes.ensures.within (omega (arith, n.in_pool, c.deref_mut.ensures.len)) (c.fill.ensures.after (λ y e. e)) ∙ ap (wiped 0 bytes n.used) c.deref_mut.ensures.value)
    _ (part_wiped left c.deref_mut-2.result.now c.fill-2.new.self (span 0 0) n.count few (omega (arith, n.in_table, c.deref_mut-2.ensures.len)) (c.fill-2.ensures.after (λ y e. e)) ∙ ap (wiped (span 0 0) left n.count) c.deref_mut-2.ensures.value) in
    holds_laid _ _ _ _ refl refl laid
