use Rattle.std.proofs.Common.{◌≡◌, ℕ, Some, None, Ok, Option}
use Rattle.hierarchy.specs.Entering.{held_of, links_in}
use Rattle.hierarchy.specs.Indexes.{settled_answer}
use Rattle.hierarchy.proofs.SettledTables.{index_parts}
use Rattle.hierarchy.proofs.book.Hierarchy.settled_index.Goals as goal

settled_with : (settled : Option ℕ) (chains : ℕ) → Ok chains ≡ settled_answer settled → settled ≡ Some chains
settled_with None chains e = cc
settled_with (Some count) chains e = cc

pub invariant_of-result : goal.invariant_of-result
invariant_of-result c =
    let s = c.args.self.now in
    let e : s.chains ≡ Some c.in_ok-chains.chains = settled_with _ _ c.in_ok-chains.ensures in
    let p = index_parts s.chains c.in_ok-chains.chains s.entered.types (links_in (held_of s.entered)) c.links.result.now s.order.items s.chain.items _ s.position.items _ s.kept.items s.index.items _
    e c.links.ensures c.deref.ensures.value c.deref-2.ensures.value c.deref-3.ensures.value s.answering in
    record { room = p.0; chain_room = p.1; position_room = p.2; below = p.3; answers = p.4 }
