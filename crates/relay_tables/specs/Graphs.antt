-- The graph of a directory and an envelope: which nodes there are, and that numbers lead where targets do.
use Rattle.std.specs.Prelude.{◌≡◌, ◌≢◌, ℕ, ◌^◌, ◌<◌, ◌≤◌, Bool, false, ◌&&◌, ◌==◌, nat_lt, List, [], ◌++◌, length, map, filter, flat_map, count_by, slice_get, All, AllPairs, Contains, Option, Some, None, is_some, unwrap_or, ◌↔◌, Result, Ok, Err, ⊤, if◌then◌else◌}
use Rattle.std.specs.List.{list_any, range_with_len}
use Rattle.std.specs.Str.{bytes_eq}
use Rattle.relay_text.specs.Bytes.{firsts}
use Rattle.relay_text.specs.AddressParts.{AddressParts}
use Rattle.relay_aliasfile.specs.declared.entry.Entry.{Entry}
use Rattle.relay_tables.specs.declared.node.Node.{Node}
use Rattle.relay_tables.specs.declared.node.Node.TheVariants.{Alias, Include, Mailbox, Remote, Missing, NoInclude, Command, File}
use Rattle.relay_tables.specs.declared.fault.TableFault.{TableFault}
use Rattle.relay_tables.specs.declared.fault.TableFault.TheVariants.{TooManyNames, TooManyOwners, Memory}
use Rattle.relay_tables.specs.Directory.{Directory}
use Rattle.relay_tables.specs.Targets.{targets_of, recipient_target}
use Rattle.relay_tables.specs.Senders.{Sender, owner_number, owner_entry, sender_by, sender_past}
use Rattle.relay_tables.specs.GraphParts.{GraphParts}

abbrev pub same_address : AddressParts → AddressParts → Bool
same_address a b = bytes_eq a.local b.local && bytes_eq a.domain b.domain

abbrev pub same_node : Node → Node → Bool
same_node (Alias m) (Alias n) = m == n
same_node (Include m) (Include n) = m == n
same_node (Mailbox a) (Mailbox b) = same_address a b
same_node (Remote a) (Remote b) = same_address a b
same_node (Missing s) (Missing t) = bytes_eq s t
same_node (NoInclude s) (NoInclude t) = bytes_eq s t
same_node (Command s) (Command t) = bytes_eq s t
same_node (File s) (File t) = bytes_eq s t
same_node m n = false

module _ (d : Directory) where
  abbrev pub entry_nodes : List Node
  entry_nodes = map Alias (range_with_len 0 (length d.aliases)) ++ map Include (range_with_len 0 (length d.includes))

  -- Every alias, every include file, and every target of an item or a recipient, each once.
  abbrev pub nodes_of : List AddressParts → List Node
  nodes_of recipients = firsts same_node (entry_nodes ++ flat_map (targets_of d) entry_nodes ++ map (recipient_target d) recipients)

  -- how many aliases have an owner
  abbrev pub owner_count : ℕ
  owner_count = count_by (λ alias. is_some (owner_number d alias)) (range_with_len 0 (length d.aliases))

  -- Why there is no graph: too many nodes, else too many aliases with an owner.
  abbrev pub refusal_of : List AddressParts → ℕ → ℕ → Option TableFault
  refusal_of recipients names owners =
      if nat_lt names (length (nodes_of recipients)) then Some TooManyNames
      else (if nat_lt owners owner_count then Some TooManyOwners else None)

-- a call refuses with a fault exactly where the definition gives it, unless memory runs out
abbrev pub Refuses : {A : Type 0} → Result A TableFault → Option TableFault → Type 0
Refuses (Ok a) refusal = refusal ≡ None
Refuses (Err Memory) refusal = ⊤
Refuses (Err fault) refusal = refusal ≡ Some fault

module _ (g : GraphParts) where
  abbrev pub child_numbers : ℕ → List ℕ
  child_numbers n = unwrap_or (slice_get g.children n) []

  -- the nodes that have this child, ascending, each once
  abbrev pub parent_numbers : ℕ → List ℕ
  parent_numbers n = filter (λ p. list_any (λ c. c == n) (child_numbers p)) (range_with_len 0 (length g.nodes))

  -- the number of the sender after a node: the one that the node sets, or the sender before it
  abbrev pub sender_number_after : ℕ → ℕ → ℕ
  sender_number_after s n = unwrap_or (unwrap_or (slice_get g.owners n) None) s

  -- the nodes of these numbers
  abbrev pub nodes_at : List ℕ → List (Option Node)
  nodes_at numbers = map (slice_get g.nodes) numbers

  -- The numbers of roots and children are those of nodes, and the sender after a node is one of the senders; of both there are few.
  pub record IsClosedGraph : Type 0 where
    pub few_nodes : length g.nodes ≤ 2 ^ 24
    pub few_senders : length g.senders ≤ 2 ^ 32
    pub some_sender : 1 ≤ length g.senders
    pub roots : All (λ n. n < length g.nodes) g.roots
    pub children : (n : ℕ) → n < length g.nodes → All (λ c. c < length g.nodes) (child_numbers n)
    pub senders : (s n : ℕ) → s < length g.senders → n < length g.nodes → sender_number_after s n < length g.senders

-- the sender of some alias with an owner
abbrev pub IsOwnerSender : Directory → Sender → Type 0
IsOwnerSender d sender = (alias : ℕ) × (owner : Entry) × (owner_entry d alias ≡ Some owner) × (sender ≡ Some (sender_by d owner))

-- Each node once, children and roots as their targets are, the envelope's sender first, and the senders after each node.
pub record IsGraphOf (d : Directory) (sender : Sender) (recipients : List AddressParts) (g : GraphParts) : Type 0 where
  pub distinct : AllPairs (λ m n. m ≢ n) g.nodes
  pub nodes : (n : Node) → Contains g.nodes n ↔ Contains (nodes_of d recipients) n
  pub children : (k : ℕ) (n : Node) → slice_get g.nodes k ≡ Some n → nodes_at g (child_numbers g k) ≡ map (λ t. Some t) (targets_of d n)
  pub roots : nodes_at g g.roots ≡ map (λ a. Some (recipient_target d a)) recipients
  pub senders_distinct : AllPairs (λ s t. s ≢ t) g.senders
  pub envelope_first : slice_get g.senders 0 ≡ Some sender
  pub other_senders : (s : ℕ) (a : Sender) → 0 < s → slice_get g.senders s ≡ Some a → IsOwnerSender d a
  pub after : (s k : ℕ) (a : Sender) (n : Node) → slice_get g.senders s ≡ Some a → slice_get g.nodes k ≡ Some n → slice_get g.senders (sender_number_after g s k) ≡ Some (sender_past d a n)

-- Each node once, the recipients' targets and all that they lead to among them, children and roots as their targets are; the envelope's
-- sender first, and the senders after each node. What nobody reaches need not be there: of a whole graph it is all that `IsGraphOf` says
-- but which nodes there are.
pub record IsGraphFrom (d : Directory) (sender : Sender) (recipients : List AddressParts) (g : GraphParts) : Type 0 where
  pub distinct : AllPairs (λ m n. m ≢ n) g.nodes
  pub children : (k : ℕ) (n : Node) → slice_get g.nodes k ≡ Some n → nodes_at g (child_numbers g k) ≡ map (λ t. Some t) (targets_of d n)
  pub roots : nodes_at g g.roots ≡ map (λ a. Some (recipient_target d a)) recipients
  pub senders_distinct : AllPairs (λ s t. s ≢ t) g.senders
  pub envelope_first : slice_get g.senders 0 ≡ Some sender
  pub other_senders : (s : ℕ) (a : Sender) → 0 < s → slice_get g.senders s ≡ Some a → IsOwnerSender d a
  pub after : (s k : ℕ) (a : Sender) (n : Node) → slice_get g.senders s ≡ Some a → slice_get g.nodes k ≡ Some n → slice_get g.senders (sender_number_after g s k) ≡ Some (sender_past d a n)
