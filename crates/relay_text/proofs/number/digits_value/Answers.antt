use Rattle.std.proofs.Common.{arith}
use Rattle.relay_text.proofs.Numbers.{value_of_more}
use Rattle.relay_text.proofs.number.digits_value.Goals as goal

pub returns-in_default-clause-none : goal.returns-in_default-clause-none
returns-in_default-clause-none c =
    omega (arith, c.loop-digit.invariant, c.in_default.ensures, value_of_more c.args.digits.now c.loop-digit.digit-index c.loop-digit-test.true)

pub returns-in_default-checked_add-clause-none : goal.returns-in_default-checked_add-clause-none
returns-in_default-checked_add-clause-none c =
    omega (arith, c.loop-digit.invariant, c.in_default-checked_add.ensures, c.in-Some.ensures.1, c.saturating_sub.ensures, c.from.ensures, value_of_more c.args.digits.now c.loop-digit.digit-index c.loop-digit-test.true)
