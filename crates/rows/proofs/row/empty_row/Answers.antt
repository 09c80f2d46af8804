use Rattle.std.proofs.Common.{◌-◌, ◌≡◌, arith}
use Rattle.rows.proofs.RowPlaces.{part_outside}
use Rattle.rows.proofs.row.empty_row.Goals as goal

pub returns-clause-outside : goal.returns-clause-outside
returns-clause-outside c j out =
    let r = c.row.ensures in
    let wide : c.row.result.end - c.row.result.start ≡ c.args.layout.now.chains = omega (arith, r.start, r.end) in
    part_outside c.args.index.now c.fill.new.self c.row.result.start (c.row.result.end - c.row.result.start) j (omega (arith, r.start, r.end, wide, c.requires)) (omega (arith, c.fill.ensures.len))
    (λ k h e. out k (omega (arith, wide)) (omega (arith, r.start)))
