use Rattle.std.proofs.Common.{ℕ, ◌++◌, length, take, drop, Option, sym, ap, ◌∙◌, subst}
use mathlib.Core.Logic.{∥∥₁_map}
use Rattle.hierarchy.specs.Entering.{held_of, links_in}
use Rattle.hierarchy.specs.Answering.{Answering}
use Rattle.hierarchy.proofs.LinkTables.{refilled_is}
use Rattle.hierarchy.proofs.SettledTables.{answering_after, same_tables, settles_same}
use Rattle.hierarchy.proofs.book.Hierarchy.settle.Goals as goal

pub invariant_of-self : goal.invariant_of-self
invariant_of-self g c =
    let s = c.args.self.now in
    let a = c.settle_entered-answer in
    let n = s.entered.types in
    let links = links_in (held_of s.entered) in
    let G = g.D.Decomposer.gives c.args.decomposer.now in
    let before = same_tables c.args.table.now c.args.scratch.now c.deref_mut.ensures.value c.deref_mut-2.ensures.value c.deref_mut-3.ensures.value c.deref_mut-4.ensures.value c.deref_mut-5.ensures.value in
    let o = refilled_is s.order.items a.new.order c.deref_mut.result.now s.order.len a.auto.order c.deref_mut.ensures.len in
    let ch = refilled_is s.chain.items a.new.chain c.deref_mut-2.result.now s.chain.len a.auto.chain c.deref_mut-2.ensures.len in
    let p = refilled_is s.position.items a.new.position c.deref_mut-3.result.now s.position.len a.auto.position c.deref_mut-3.ensures.len in
    let k = refilled_is s.kept.items a.new.kept c.deref_mut-4.result.now s.kept.len a.auto.kept c.deref_mut-4.ensures.len in
    let i = refilled_is s.index.items a.new.index c.deref_mut-5.result.now s.index.len a.auto.index c.deref_mut-5.ensures.len in
    let after = same_tables a.new.loop_table a.new.scratch (sym o) (sym ch) (sym p) (sym k) (sym i) in
    let told = settles_same G n links a.result before after a.ensures in
    record {
      answering = subst (λ (x : Option ℕ). ∥ Answering x n links (take s.order.len (a.new.order ++ drop (length a.new.order) s.order.items)) (take s.chain.len (a.new.chain ++ drop (length a.new.chain) s.chain.items)) (take s.position.len (a.new.position ++ drop (length a.new.position) s.position.items)) (take s.kept.len (a.new.kept ++ drop (length a.new.kept) s.kept.items)) (take s.index.len (a.new.index ++ drop (length a.new.index) s.index.items)) ∥₁)
          (sym c.settled_by-self.ensures)
          (∥∥₁_map s.answering (answering_after G (g.met.D.Decomposer.meaning c.args.decomposer.now) n links _ _ s.chains s.entered.few_types.1 s.entered.within
          (ap length ch ∙ a.auto.chain ∙ ap length c.deref_mut-2.ensures.value) (ap length p ∙ a.auto.position ∙ ap length c.deref_mut-3.ensures.value) a.result told));
    }
