-- What a worker keeps of what it wins.
use Rattle.std.specs.Prelude.{◌≡◌, ℕ, ◌+◌, ◌-◌, ◌<◌, ◌≤◌, Bool, false, List, map, slice_index}
use Rattle.relay_claims.specs.declared.view.Settled.{Settled}
use Rattle.relay_claims.specs.Counting.{times, span}
use Rattle.relay_claims.specs.Settled.{won_of, places_of}
use Rattle.relay_claims.specs.Round.{piece_count}
use Rattle.relay_claims.specs.Seat.{Progress}

-- the keys at the places that were won
abbrev pub keys_won : List ℕ → List Settled → List ℕ
keys_won keys claims = map (λ i. slice_index keys i) (won_of claims)

-- unless memory for some was refused, these are the keys that the seat won
abbrev pub HasKept : List ℕ → Progress → Bool → List ℕ → Type 0
HasKept keys seat refused won = refused ≡ false → won ≡ keys_won keys seat.settled

-- each place is claimed as often as it was drawn, but for those from start up to end, none of which is claimed yet
pub record IsClaiming (start end : ℕ) (s : Progress) : Type 0 where
  pub each : (x : ℕ) → times x s.drawn ≡ times x (places_of s.settled) + times x (span start (end - start))
  pub free : (x : ℕ) → start ≤ x → x < end → times x (places_of s.settled) ≡ 0

-- each place is claimed as often as it was drawn
abbrev pub HasClaimedAll : Progress → Type 0
HasClaimedAll s = (x : ℕ) → times x s.drawn ≡ times x (places_of s.settled)

-- the seat drew until no piece was left, and claimed
pub record ClaimsAll (before after : Progress) : Type 0 where
  pub round : after.round ≡ before.round
  pub position : after.position ≡ before.position
  pub last : after.seen ≡ piece_count before.round
  pub claimed : HasClaimedAll after
