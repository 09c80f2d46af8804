use Rattle.std.proofs.Common.{◌+◌, drop, sym, ap, ◌∙◌, arith}
use Rattle.script.specs.Numbers.{with_digits}
use Rattle.script.proofs.Digits.{no_digits, digit_on}
use Rattle.script.proofs.numbers.read_number.Goals as goal

pub returns-in_err-value : goal.returns-in_err-value
returns-in_err-value c =
    let left = drop (c.loop-digit.digit-index + 1) c.args.digits.now in
    c.from_residual.ensures
    ∙ sym (no_digits left)
    ∙ ap (λ o. with_digits o left) (sym c.in_err-value.was ∙ c.with_digit.ensures)
    ∙ sym (digit_on c.args.digits.now c.loop-digit.digit-index c.loop-digit.value (omega arith))
    ∙ c.loop-digit.invariant
