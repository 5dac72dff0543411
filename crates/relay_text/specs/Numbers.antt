-- Decimal numbers, as settings and tables write them: digits alone, of any length, leading zeros taken.
use Rattle.std.specs.Prelude.{ℕ, ◌+◌, ◌-◌, ◌*◌, ◌&&◌, nat_le, List, fold, Option, Some, None, option_and_then, if◌then◌else◌}
use Rattle.std.specs.Char.{is_ascii_digit}
use Rattle.relay_text.specs.Addresses.{is_run_of}

-- a number with one more digit at its end
abbrev pub with_digit : ℕ → ℕ → ℕ
with_digit n digit = n * 10 + (digit - 48)

abbrev pub digits_value : List ℕ → ℕ
digits_value digits = fold with_digit 0 digits

-- the number that decimal digits spell
abbrev pub number_of : List ℕ → Option ℕ
number_of digits = if is_run_of is_ascii_digit digits then Some (digits_value digits) else None

-- the number, where it's in a range
abbrev pub number_within : ℕ → ℕ → List ℕ → Option ℕ
number_within low high digits = option_and_then (λ n. if nat_le low n && nat_le n high then Some n else None) (number_of digits)
