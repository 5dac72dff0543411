-- Trails from a recipient of the envelope to a sender and a node of the directory.
use Rattle.std.specs.Prelude.{◌≡◌, ◌≢◌, ℕ, List, [], ◌∷◌, map, slice_get, All, AllPairs, Contains, Option, Some, option_map, option_and_then, ◌↔◌}
use Rattle.relay_text.specs.AddressParts.{AddressParts}
use Rattle.relay_tables.specs.declared.node.Node.{Node}
use Rattle.relay_tables.specs.Directory.{Directory}
use Rattle.relay_tables.specs.GraphParts.{GraphParts}
use Rattle.relay_tables.specs.Senders.{Sender, Pair, sender_past}
use Rattle.relay_tables.specs.Targets.{recipient_target, targets_of}
use Rattle.relay_pairs.specs.declared.reached.Reached.{Reached}
use Rattle.relay_pairs.specs.Chains.{IsReachedBy}
use Rattle.relay_trails.specs.declared.found.Found.{Found}
use Rattle.relay_trails.specs.Trails.{Trail, IsLess, trail_of}

-- the pair's sender and node have these numbers
pub record AreNumbersOf (g : GraphParts) (pair : Pair) (numbers : Reached) : Type 0 where
  pub sender : slice_get g.senders numbers.sender ≡ Some pair.sender
  pub node : slice_get g.nodes numbers.node ≡ Some pair.node

-- the sender of each answer
abbrev pub senders_of : GraphParts → List Found → List (Option Sender)
senders_of g found = map (λ f. slice_get g.senders f.sender) found

module _ (d : Directory) (sender : Sender) (recipients : List AddressParts) where
  -- the target of a recipient, under the envelope's sender
  abbrev pub first_pair : ℕ → Option Pair
  first_pair recipient = option_map (λ a. record { sender = sender; node = recipient_target d a }) (slice_get recipients recipient)

  -- the target of an item of the pair's node, under the sender after the node
  abbrev pub next_pair : ℕ → Pair → Option Pair
  next_pair item pair = option_map (λ n. record { sender = sender_past d pair.sender pair.node; node = n }) (slice_get (targets_of d pair.node) item)

  abbrev pub pair_past : Option Pair → List ℕ → Option Pair
  pair_past from [] = from
  pair_past from (item ∷ items) = pair_past (option_and_then (next_pair item) from) items

  -- The pair that a trail leads to. There is none where it has a recipient or an item that isn't there.
  abbrev pub leads_to : Trail → Option Pair
  leads_to t = pair_past (first_pair t.recipient) t.items

  -- it leads to the pair, and none that is less does
  pub record IsBestBy (pair : Pair) (t : Trail) : Type 0 where
    pub leads : leads_to t ≡ Some pair
    pub least : (u : Trail) → leads_to u ≡ Some pair → ¬ IsLess u t

  -- an answer for a sender of the graph
  pub record IsBestAnswer (g : GraphParts) (node : Node) (found : Found) : Type 0 where
    pub sender_is : Sender
    pub at : slice_get g.senders found.sender ≡ Some sender_is
    pub best : IsBestBy (record { sender = sender_is; node = node }) (trail_of found)

  -- Exactly the senders under which the node is reached, each once and with its best trail.
  pub record AreBestBy (g : GraphParts) (node : Node) (found : List Found) : Type 0 where
    pub distinct : AllPairs (λ s t. s ≢ t) (senders_of g found)
    pub listed : (s : Sender) → Contains (senders_of g found) (Some s) ↔ IsReachedBy d sender recipients (record { sender = s; node = node })
    pub best : All (IsBestAnswer g node) found
