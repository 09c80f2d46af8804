use Rattle.std.proofs.Common.{◌≡◌, ◌-◌, ◌≤◌, length, get_or, take, drop, sym, ap, ◌∙◌, subst, arith}
use Rattle.std.proofs.lemmas.List.{length-take-le, get_or-take, take_at}
use Rattle.descent.specs.Loops.{Loop}
use Rattle.std.specs.Option.{IsSome}
use Rattle.order.proofs.Left.{table_some, table_round, table_loop}
use Rattle.order.proofs.looping.find_loop.Goals as goal

pub unwrap-requires : goal.unwrap-requires
unwrap-requires c =
    let small : c.args.types ≤ 65535 = omega arith in
    subst IsSome (sym c.first_unranked.ensures) (table_some c.args.types c.args.links.now c.args.rank.now small c.requires.ranks c.requires.within c.requires.some)

pub write_round-length-requires-clause-round : goal.write_round-length-requires-clause-round
write_round-length-requires-clause-round c =
    let small : c.args.types ≤ 65535 = omega arith in
    table_round c.args.types c.args.links.now c.args.rank.now small c.requires.ranks c.requires.within c.requires.some
    c.unwrap.result c.walk_down-start.result (sym c.unwrap.ensures ∙ c.first_unranked.ensures) c.walk_down-start.ensures

pub returns-clause-written : goal.returns-clause-written
returns-clause-written c =
    let small : c.args.types ≤ 65535 = omega arith in
    let k = c.write_round-length.result in
    let table = c.write_round-length.new.table in
    let e = c.write_round-length.ensures in
    let long : length (take k table) ≡ k = length-take-le k table (omega arith) in
    let same : length c.reverse.new.self ≡ k = c.reverse.ensures.len ∙ long in
    subst (Loop c.args.links.now) (sym (take_at c.reverse.new.self (drop k table) k same))
    (table_loop c.args.types c.args.links.now c.args.rank.now small c.requires.ranks c.requires.within c.requires.some
    c.unwrap.result c.walk_down-start.result (sym c.unwrap.ensures ∙ c.first_unranked.ensures) c.walk_down-start.ensures
    c.reverse.new.self k e.round same
    (λ i h.
    c.reverse.ensures.by_index i 0 (omega arith) ∙ ap (λ n. get_or (take k table) (n - 1 - i) 0) long
    ∙ get_or-take k table (k - 1 - i) 0 (omega arith) ∙ e.written (k - 1 - i) (omega arith)))
