use Rattle.std.proofs.Common.{◌≡◌, take}
use Rattle.relay_text.specs.Numbers.{digits_value}
use Rattle.relay_text.proofs.number.digits_value.Given as goal

-- the value of the digits so far
abbrev pub invariant-loop-digit : goal.invariant-loop-digit
invariant-loop-digit l = l.number ≡ digits_value (take l.digit-index l.digits)
