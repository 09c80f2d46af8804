use Rattle.std.proofs.Common.{◌≡◌, drop, Some}
use Rattle.script.specs.Numbers.{with_digits, number_of}
use Rattle.script.proofs.numbers.read_number.Given as goal

-- what is left completes the number
abbrev pub invariant-loop-digit : goal.invariant-loop-digit
invariant-loop-digit l = with_digits (Some l.value) (drop l.digit-index l.digits) ≡ number_of l.digits
