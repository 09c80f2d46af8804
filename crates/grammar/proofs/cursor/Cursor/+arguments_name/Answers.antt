use Rattle.std.proofs.Common.{refl, ◌∙◌, arith}
use Rattle.grammar.specs.Reading.{fresh, in_word, closed}
use Rattle.grammar.proofs.Leading.{from_there, name_refused}
use Rattle.grammar.proofs.cursor.Cursor.+arguments_name.Goals as goal

pub arguments-returns-in_err-past-in-Some-eq44 : goal.arguments-returns-in_err-past-in-Some-eq44
arguments-returns-in_err-past-in-Some-eq44 t c =
    name_refused c.args.self _ _ c.in_err-past-in-Some-eq44.field-0.0 c.from_residual-in_err-past-in-Some-eq44.ensures.1
    (λ p ns. c.in_ok-end.ensures.2 p ns ∙ c.in_err-past-in-Some-eq44.ensures p closed fresh ns (omega (arith, c.in-Some-eq44.ensures), omega (arith, c.in_ok-end.ensures.1), refl))

pub arguments-returns-in_ok-past-in-Some-eq44 : goal.arguments-returns-in_ok-past-in-Some-eq44
arguments-returns-in_ok-past-in-Some-eq44 t c =
    let n = c.in_ok-end.ensures in
    let x = c.in_ok-past-in-Some-eq44.ensures in
    from_there c.args.self c.in_ok-past-in-Some-eq44.field-0 _ _ c.arguments.result (x.0.0 ∙ n.0.0, x.0.1 ∙ n.0.1, omega (arith, n.0.2, x.0.2)) (omega (arith, n.1, x.1))
    (λ p ns. n.2 p ns ∙ x.2 p closed fresh ns (omega (arith, c.in-Some-eq44.ensures), omega (arith, n.1), refl)) c.arguments.ensures

pub name-returns-in_err-past-in-Some-eq91 : goal.name-returns-in_err-past-in-Some-eq91
name-returns-in_err-past-in-Some-eq91 t c =
    name_refused c.args.self _ _ c.in_err-past-in-Some-eq91.field-0.0 c.from_residual-in_err-past-in-Some-eq91.ensures.1
    (λ p ns. c.in_ok-end.ensures.3 p ns ∙ c.in_err-past-in-Some-eq91.ensures p in_word fresh ns (omega (arith, c.in-Some-eq91.ensures), refl))

pub name-returns-in_ok-past-in-Some-eq91 : goal.name-returns-in_ok-past-in-Some-eq91
name-returns-in_ok-past-in-Some-eq91 t c =
    let n = c.in_ok-end.ensures in
    let x = c.in_ok-past-in-Some-eq91.ensures in
    from_there c.args.self c.in_ok-past-in-Some-eq91.field-0 _ _ c.arguments.result (x.0.0 ∙ n.0.0, x.0.1 ∙ n.0.1, omega (arith, n.0.2, x.0.2)) (omega (arith, n.1, x.1))
    (λ p ns. n.3 p ns ∙ x.2 p in_word fresh ns (omega (arith, c.in-Some-eq91.ensures), refl)) c.arguments.ensures
