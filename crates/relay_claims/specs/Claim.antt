-- What a claim answers.
use Rattle.std.specs.Prelude.{◌≡◌, ◌≢◌, ℕ, ◌<◌, List, length, slice_index}
use Rattle.relay_claims.specs.declared.round.Claim.{Claim}
use Rattle.relay_claims.specs.declared.round.Claim.TheVariants.{Won, Held}

-- the place that holds the key of the place j
abbrev pub holder_of : ℕ → Claim → ℕ
holder_of j Won = j
holder_of j (Held i) = i

-- where the claim of the place j was not won, another place has its key
abbrev pub IsHeldElsewhere : List ℕ → ℕ → Claim → Type 0
IsHeldElsewhere keys j Won = Unit {0}
IsHeldElsewhere keys j (Held i) = (i < length keys) × (i ≢ j) × (slice_index keys i ≡ slice_index keys j)
