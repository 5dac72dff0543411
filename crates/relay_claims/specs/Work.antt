-- Seats that claim what they draw.
use Rattle.std.specs.Prelude.{◌≡◌, ℕ}
use Rattle.relay_claims.specs.Counting.{times}
use Rattle.relay_claims.specs.Settled.{places_of}
use Rattle.relay_claims.specs.Round.{piece_count}
use Rattle.relay_claims.specs.Seat.{Progress}

-- each drawn place is claimed
abbrev pub HasClaimedAll : Progress → Type 0
HasClaimedAll s = (x : ℕ) → times x (places_of s.settled) ≡ times x s.drawn

-- the seat drew until no piece was left, and has claimed each drawn place
pub record ClaimsTheRest (before after : Progress) : Type 0 where
  pub round : after.round ≡ before.round
  pub position : after.position ≡ before.position
  pub last : after.seen ≡ piece_count before.round
  pub claimed : HasClaimedAll after
