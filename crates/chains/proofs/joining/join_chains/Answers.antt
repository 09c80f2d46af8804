use Rattle.std.proofs.Common.{◌≡◌, ℕ, List, map, length, get_or, ap, ◌∙◌, arith}
use Rattle.std.specs.List.{range_with_len}
use Rattle.chains.specs.Ends.{has_last}
use Rattle.chains.specs.Joining.{renumbered}
use Rattle.chains.specs.Places.{places}
use Rattle.chains.specs.Counts.{passing_le}
use Rattle.chains.proofs.JoiningTables.{firsts_on, all_stand, renumbered_table}
use Rattle.chains.proofs.joining.join_chains.Goals as goal

pub find_lasts-requires-clause-some : goal.find_lasts-requires-clause-some
find_lasts-requires-clause-some c d h =
    let long = c.requires.chain_room in
    let f = firsts_on c.requires.chained c.find_firsts.new.first (λ t k. c.find_firsts.ensures t (omega (arith, long))) d h in
    let e = ap (λ (x : List ℕ). get_or x d 0) c.copy_from_slice.ensures.after in
    (omega (arith, e, f.0, long), ap (λ x. get_or c.args.chain.now x 0) e ∙ f.1)

pub take_turns-requires-clause-ends : goal.take_turns-requires-clause-ends
take_turns-requires-clause-ends c =
    let long = c.requires.chain_room in
    let lasts = c.find_lasts.ensures in
    all_stand c.requires.chained c.find_firsts.new.first c.find_lasts.new.last (λ t k. c.find_firsts.ensures t (omega (arith, long)))
    (λ d h. let l = lasts.some d h in (omega (arith, l.0, long), l.1)) (λ t k. lasts.top t (omega (arith, long)))

pub returns-clause-joined : goal.returns-clause-joined
returns-clause-joined c =
    let n = c.args.ranked.now.types in
    let chain = c.take_turns.new.chain in
    let n' = c.number_standing-standing in
    let s = places c.args.count chain c.take_turns.new.position in
    let long : length chain ≡ n = c.take_turns.auto.chain ∙ c.requires.chain_room in
    renumbered_table n s c.find_firsts.new.first c.take_turns.new.last c.args.ranked.now.few c.take_turns.ensures.ends n'.result n'.new.number c.renumber.new.chain
    c.take_turns.ensures.below n'.ensures.numbers n'.ensures.count
    (c.renumber.ensures ∙ ap (λ k. map (λ t. get_or n'.new.number (get_or chain t 0) 0) (range_with_len 0 k)) long)
    ∙ ap (renumbered n) c.take_turns.ensures.turns

pub returns-clause-count : goal.returns-clause-count
returns-clause-count c = omega (arith, c.number_standing-standing.ensures.count, passing_le c.args.count (has_last c.take_turns.new.last))
