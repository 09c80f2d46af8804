use Rattle.std.proofs.Common.{refl, ◌∙◌, ap}
use Rattle.names.specs.Tables.{written}
use Rattle.names.proofs.Keeping.{holds_laid}
use Rattle.names.proofs.Laying.{laid_kept}
use Rattle.names.proofs.Padding.{part_written}
use Rattle.names.proofs.Changing.{laid_entered}
use Rattle.names.proofs.names.Names.enter.Goals as goal

pub invariant_of-self : goal.invariant_of-self
invariant_of-self c =
    let n = c.args.self.now in
    let bytes = c.args.bytes.now in
    let wrote = part_written n.used c.deref_mut.result.now c.copy_from_slice.new.self bytes c.copy_from_slice.ensures.after ∙ ap (written n.used bytes) c.deref_mut.ensures.value in
    let laid = laid_entered n bytes c.in_default.ensures c.in_ok-check_place.ensures _ wrote in
    let kept = laid_kept _ _ _ _ _ _ _ laid in
    record { in_table = laid.in_table; few_types = laid.few_types; in_pool = laid.in_pool; few_bytes = laid.few_bytes; in_use = kept.0; whole_pool = kept.1; whole_table = kept.2; different = kept.3 }

pub returns-clause-after : goal.returns-clause-after
returns-clause-after c =
    let n = c.args.self.now in
    let bytes = c.args.bytes.now in
    let wrote = part_written n.used c.deref_mut.result.now c.copy_from_slice.new.self bytes c.copy_from_slice.ensures.after ∙ ap (written n.used bytes) c.deref_mut.ensures.value in
    holds_laid _ _ _ _ refl refl (laid_entered n bytes c.in_default.ensures c.in_ok-check_place.ensures _ wrote)
