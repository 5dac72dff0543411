-- Which senders and nodes a message reaches (local(8) of Postfix; RFC 5321 section 3.9).
use Rattle.std.specs.Prelude.{◌≡◌, ◌≢◌, ℕ, ◌<◌, ◌≤◌, List, [], ◌∷◌, length, map, sum, slice_get, slice_index, All, AllPairs, Contains, Some}
use Rattle.relay_text.specs.AddressParts.{AddressParts}
use Rattle.relay_rounds.specs.Walks.{IsReached}
use Rattle.relay_tables.specs.Directory.{Directory}
use Rattle.relay_tables.specs.GraphParts.{GraphParts}
use Rattle.relay_tables.specs.Senders.{Sender, Pair, Step}
use Rattle.relay_tables.specs.Targets.{recipient_target}
use Rattle.relay_pairs.specs.declared.reached.Reached.{Reached}
use Rattle.relay_pairs.specs.Pairs.{IsReachedPair}

module _ (d : Directory) (sender : Sender) (recipients : List AddressParts) where
  -- A chain starts at the envelope's sender with the target of a recipient.
  pub record IsStart (pair : Pair) : Type 0 where
    pub envelope : pair.sender ≡ sender
    pub target : Contains (map (recipient_target d) recipients) pair.node

  -- A pair of sender and node is reached where some chain of steps, of any length, ends in it.
  abbrev pub IsReachedBy : Pair → Type 0
  IsReachedBy pair = IsReached IsStart (Step d) pair

  -- more than n pairs are reached, and no more than n
  pub record HasMoreBy (n : ℕ) : Type 0 where
    pub pairs : List Pair
    pub distinct : AllPairs (λ p q. p ≢ q) pairs
    pub reached : All IsReachedBy pairs
    pub more : n < length pairs

  abbrev pub HasAtMostBy : ℕ → Type 0
  HasAtMostBy n = (pairs : List Pair) → AllPairs (λ p q. p ≢ q) pairs → All IsReachedBy pairs → length pairs ≤ n

  -- n pairs or more are reached
  pub record HasAtLeastBy (n : ℕ) : Type 0 where
    pub pairs : List Pair
    pub distinct : AllPairs (λ p q. p ≢ q) pairs
    pub reached : All IsReachedBy pairs
    pub some : n ≤ length pairs

-- A pair is reached from a recipient where it is reached by a message to that recipient alone.
abbrev pub IsReachedFrom : Directory → Sender → AddressParts → Pair → Type 0
IsReachedFrom d sender recipient pair = IsReachedBy d sender (recipient ∷ []) pair

module _ (d : Directory) (sender : Sender) (recipients : List AddressParts) where
  -- More than n pairs are reached from the recipients, where each pair counts once for each recipient that it is reached from: so many, or
  -- more, from each.
  pub record HasMoreFromEach (n : ℕ) : Type 0 where
    pub counts : List ℕ
    pub of_recipients : length counts ≤ length recipients
    pub each : (k : ℕ) (recipient : AddressParts) → slice_get recipients k ≡ Some recipient → HasAtLeastBy d sender (recipient ∷ []) (slice_index counts k)
    pub more : n < sum counts

  -- no more than n of them: so many, or fewer, from each
  pub record HasAtMostFromEach (n : ℕ) : Type 0 where
    pub counts : List ℕ
    pub each : (k : ℕ) (recipient : AddressParts) → slice_get recipients k ≡ Some recipient → HasAtMostBy d sender (recipient ∷ []) (slice_index counts k)
    pub few : sum counts ≤ n

-- the numbers of a pair's sender and node are reached
pub record HasNumbers (g : GraphParts) (pair : Pair) (numbers : Reached) : Type 0 where
  pub reached : IsReachedPair g numbers
  pub sender : slice_get g.senders numbers.sender ≡ Some pair.sender
  pub node : slice_get g.nodes numbers.node ≡ Some pair.node

-- the recipient at a place, and the number of its target
pub record IsRootOf (recipients : List AddressParts) (g : GraphParts) (k : ℕ) (recipient : AddressParts) (root : ℕ) : Type 0 where
  pub is : slice_get recipients k ≡ Some recipient
  pub number : slice_get g.roots k ≡ Some root
