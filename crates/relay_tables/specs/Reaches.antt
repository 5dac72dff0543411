-- What is found of a graph so far, from the recipients' targets on.
use Rattle.std.specs.Prelude.{◌≡◌, ◌≢◌, ℕ, ◌+◌, ◌<◌, ◌≤◌, List, length, map, take, slice_get, slice_index_or, All, AllPairs, Contains, Option, Some, None}
use Rattle.relay_text.specs.AddressParts.{AddressParts}
use Rattle.relay_aliasfile.specs.declared.entry.Entry.{Entry}
use Rattle.relay_tables.specs.declared.node.Node.{Node}
use Rattle.relay_tables.specs.declared.node.Node.TheVariants.{Alias, Include, Mailbox, Remote, Missing, NoInclude, Command, File}
use Rattle.relay_tables.specs.declared.reaching.Reach.{Reach}
use Rattle.relay_tables.specs.Directory.{Directory}
use Rattle.relay_tables.specs.Targets.{targets_of, recipient_target}
use Rattle.relay_tables.specs.Senders.{Sender, owner_entry}
use Rattle.relay_tables.specs.Graphs.{nodes_of}
use Rattle.relay_tables.specs.Rowing.{nodes_in, some_of, LeadTo}
use Rattle.relay_tables.specs.Sending.{IsOwnedBy, AreOf, MayAddOwner}

-- the owner of an alias, if it has one; nothing else has an owner
abbrev pub owner_at : Directory → Node → Option Entry
owner_at d (Alias number) = owner_entry d number
owner_at d (Include number) = None
owner_at d (Mailbox a) = None
owner_at d (Remote a) = None
owner_at d (Missing name) = None
owner_at d (NoInclude path) = None
owner_at d (Command text) = None
owner_at d (File path) = None

-- some alias's owner may have added its sender
abbrev pub MayAddSender : Directory → List Sender → List Sender → Type 0
MayAddSender d old new = (alias : ℕ) × MayAddOwner d alias old new

-- Nodes that are some of those of a directory and recipients, each once.
pub record AreFound (d : Directory) (recipients : List AddressParts) (nodes : List Node) : Type 0 where
  pub distinct : AllPairs (λ m n. m ≢ n) nodes
  pub within : All (λ n. Contains (nodes_of d recipients) n) nodes

-- The recipients' targets are found, and of the first nodes the targets, of which there is a row each, and the sender that each sets.
pub record IsReach (d : Directory) (sender : Sender) (recipients : List AddressParts) (found : Reach) : Type 0 where
  pub nodes : AreFound d recipients found.names.nodes
  pub roots : nodes_in found.names.nodes found.roots.items ≡ some_of (map (recipient_target d) recipients)
  pub few_rows : length found.children ≤ length found.names.nodes
  pub rows : LeadTo found.names.nodes found.children (map (targets_of d) (take (length found.children) found.names.nodes))
  pub few_senders : length found.senders ≤ length found.children + 1
  pub senders : AreOf d sender found.senders
  pub few_owners : length found.owners.items ≡ length found.children
  pub owned : (k : ℕ) (n : Node) → k < length found.children → slice_get found.names.nodes k ≡ Some n → IsOwnedBy d found.senders (slice_index_or found.owners.items k None) (owner_at d n)
