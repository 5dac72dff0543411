-- What a closed round tells.
use Rattle.std.specs.Prelude.{◌≡◌, ℕ, ◌+◌, ◌<◌, ◌≤◌, List, [], ◌∷◌, ◌++◌, length, slice_index}
use Rattle.std.specs.List.Sorted.{IsStrictlyIncreasing}
use Rattle.relay_claims.specs.declared.view.Settled.{Settled}
use Rattle.relay_claims.specs.Counting.{times, IsIn}
use Rattle.relay_claims.specs.Settled.{places_of, won_of}
use Rattle.relay_claims.specs.Round.{ArePlaces, piece_count, link_word, link_of}
use Rattle.relay_claims.specs.Seat.{Progress}
use Rattle.relay_claims.specs.Lawful.{Leads}

-- the word `first` leads through a chain of places, and there is room for it behind the items
abbrev pub IsChainWithRoom : ℕ → List ℕ → ℕ → ℕ → ℕ → Type 0
IsChainWithRoom heads words first items room =
    (chain : List ℕ) × Leads (link_of heads words) first chain × ((i : ℕ) → IsIn i chain → link_word heads i < length words) × (items + length chain ≤ room)

-- the places of the chain that the word `first` leads through stand behind the items
abbrev pub AddsChain : ℕ → List ℕ → ℕ → List ℕ → List ℕ → Type 0
AddsChain heads words first items more = (chain : List ℕ) → Leads (link_of heads words) first chain → more ≡ items ++ chain

-- each holder is among the places
abbrev pub HasHolders : List Settled → List ℕ → Type 0
HasHolders [] items = Unit {0}
HasHolders (p ∷ ps) items = IsIn p.holder items × HasHolders ps items

-- each place is settled
abbrev pub IsAllSettled : Progress → Type 0
IsAllSettled s = (j : ℕ) → j < length s.round.keys → IsIn j (places_of s.settled)

-- what closing tells, where s closes the round with these places on chains
pub record Closes (s : Progress) (items : List ℕ) : Type 0 where
  pub rising : IsStrictlyIncreasing items
  pub places : ArePlaces s.round.keys items
  -- no two have one key
  pub apart : (i k : ℕ) → IsIn i items → IsIn k items → slice_index s.round.keys i ≡ slice_index s.round.keys k → i ≡ k
  pub holders : HasHolders s.settled items
  -- where each place is settled, their keys are all offered keys
  pub all : IsAllSettled s → (j : ℕ) → j < length s.round.keys → (i : ℕ) × IsIn i items × (slice_index s.round.keys i ≡ slice_index s.round.keys j)
  -- no place was drawn twice, and none claimed that was not drawn, or twice
  pub drawn_once : (x : ℕ) → times x s.drawn ≤ 1
  pub claimed_once : (x : ℕ) → times x (places_of s.settled) ≤ times x s.drawn
  -- where all seats were joined into this one, they are what it won, so each claimed key was won, and won once
  pub won_all : s.position ≡ [] → (x : ℕ) → times x items ≡ times x (won_of s.settled)
  pub one_winner : s.position ≡ [] → (j : ℕ) → IsIn j (places_of s.settled) → (i : ℕ) × (times i (won_of s.settled) ≡ 1) × (slice_index s.round.keys i ≡ slice_index s.round.keys j)
  -- and at the last ticket it has drawn each place
  pub drew_all : s.position ≡ [] → s.seen ≡ piece_count s.round → (x : ℕ) → x < length s.round.keys → IsIn x s.drawn

-- closing tells it of some places
abbrev pub HasClosing : Progress → Type 0
HasClosing s = (items : List ℕ) × Closes s items
