-- Lengths that a machine word counts.
use Rattle.std.specs.Prelude.{ℕ, ◌-◌, ◌^◌, min}

-- a number, or where it's larger the largest that 64 bits hold
abbrev pub saturated : ℕ → ℕ
saturated n = min n (2 ^ 64 - 1)
