-- The owner that an entry gets from one of the owner entries, in their order.
use Rattle.std.specs.Prelude.{ℕ, Bool, true, false, Option, Some, None}

-- an entry of the owned name has the first owner that there is
abbrev pub owner_or : Bool → Option ℕ → ℕ → Option ℕ
owner_or true None owner = Some owner
owner_or true (Some first) owner = Some first
owner_or false found owner = found
