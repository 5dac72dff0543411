-- Nodes that come one by one, each numbered by its first place.
use Rattle.std.specs.Prelude.{◌≡◌, ℕ, ◌+◌, ◌<◌, ◌≤◌, ◌^◌, false, List, [], ◌∷◌, ◌++◌, length, map, drop, IsTrue, Result, Ok, Err, ⊤, if◌then◌else◌}
use Rattle.std.specs.List.{list_any, range_with_len}
use Rattle.std.specs.Int.{w32, to_le_bytes}
use Rattle.relay_chains.specs.TextHash.{text_hash}
use Rattle.relay_text.specs.AddressParts.{AddressParts}
use Rattle.relay_text.specs.Addresses.{is_address}
use Rattle.relay_text.specs.JoinedAddresses.{joined_text_of}
use Rattle.relay_tables.specs.declared.node.Node.{Node}
use Rattle.relay_tables.specs.declared.node.Node.TheVariants.{Alias, Include, Mailbox, Remote, Missing, NoInclude, Command, File}
use Rattle.relay_tables.specs.declared.fault.TableFault.{TableFault}
use Rattle.relay_tables.specs.declared.fault.TableFault.TheVariants.{TooManyNames, TooManyOwners, Memory}
use Rattle.relay_tables.specs.declared.lead.Lead.{Lead}
use Rattle.relay_tables.specs.declared.lead.Lead.TheVariants as lead
use Rattle.relay_tables.specs.Graphs.{same_node}

-- The nodes by their numbers, and how many there may be. So many of the aliases stand first, and then so many of the include files.
pub record Numbered : Type 0 where
  pub nodes : List Node
  pub aliases : ℕ
  pub includes : ℕ
  pub limit : ℕ

-- the aliases and the include files, each once
abbrev pub entries_of : ℕ → ℕ → List Node
entries_of aliases includes = map Alias (range_with_len 0 aliases) ++ map Include (range_with_len 0 includes)

-- one more node, where it isn't there already
unfoldable pub with_node : List Node → Node → List Node
with_node nodes n = if list_any (same_node n) nodes then nodes else nodes ++ n ∷ []

unfoldable pub with_nodes : List Node → List Node → List Node
with_nodes nodes [] = nodes
with_nodes nodes (n ∷ more) = with_nodes (with_node nodes n) more

abbrev pub with_all : Numbered → List Node → Numbered
with_all s ns = record { nodes = with_nodes s.nodes ns; aliases = s.aliases; includes = s.includes; limit = s.limit }

-- What numbering some nodes left: with them, or where there are too many, whatever is left.
abbrev pub Numbers : {A : Type 0} → Numbered → List Node → Result A TableFault → Numbered → Type 0
Numbers old ns (Ok a) new = new ≡ with_all old ns
Numbers old ns (Err TooManyNames) new = old.limit < length (with_nodes old.nodes ns)
Numbers old ns (Err TooManyOwners) new = ⊥
Numbers old ns (Err Memory) new = ⊤

-- what a lead leads to
abbrev pub node_of : Lead → Node
node_of (lead.Alias number) = Alias number
node_of (lead.Include number) = Include number
node_of (lead.Mailbox local domain) = Mailbox (record { local = local.now; domain = domain.now })
node_of (lead.Written address) = Mailbox address.now
node_of (lead.Remote address) = Remote address.now
node_of (lead.Missing name) = Missing name.now
node_of (lead.NoInclude path) = NoInclude path.now
node_of (lead.Command text) = Command text.now
node_of (lead.File path) = File path.now

-- an address is one
abbrev pub HasGoodAddress : Node → Type 0
HasGoodAddress (Alias number) = ⊤
HasGoodAddress (Include number) = ⊤
HasGoodAddress (Mailbox a) = IsTrue (is_address a)
HasGoodAddress (Remote a) = IsTrue (is_address a)
HasGoodAddress (Missing name) = ⊤
HasGoodAddress (NoInclude path) = ⊤
HasGoodAddress (Command text) = ⊤
HasGoodAddress (File path) = ⊤

-- none of the entries that stand first
abbrev pub IsBehind : Numbered → Node → Type 0
IsBehind s n = list_any (same_node n) (entries_of s.aliases s.includes) ≡ false

-- the text by which an address is told: its domain comes first, after its length
abbrev pub address_key : AddressParts → List ℕ
address_key a = length a.domain ∷ (a.domain ++ a.local)

-- The hash by which a node is found: an alias and an include file are found by the bytes of their numbers, and a mailbox as its name is.
unfoldable pub node_hash : ℕ → Node → ℕ
node_hash key (Alias number) = text_hash key (to_le_bytes w32 number)
node_hash key (Include number) = text_hash key (to_le_bytes w32 number)
node_hash key (Mailbox a) = text_hash key a.local
node_hash key (Remote a) = text_hash key (joined_text_of a)
node_hash key (Missing name) = text_hash key name
node_hash key (NoInclude path) = text_hash key path
node_hash key (Command text) = text_hash key text
node_hash key (File path) = text_hash key path

-- the nodes behind the aliases and include files that stand first
abbrev pub behind_of : ℕ → ℕ → List Node → List Node
behind_of aliases includes nodes = drop (aliases + includes) nodes

-- So many entries stand first, and the hashes are those of the nodes behind them.
pub record AreNumbered (nodes : List Node) (aliases includes limit key : ℕ) (hashes : List ℕ) : Type 0 where
  pub front : nodes ≡ entries_of aliases includes ++ behind_of aliases includes nodes
  pub hashed : hashes ≡ map (node_hash key) (behind_of aliases includes nodes)
  pub fits : aliases + includes ≤ limit
  pub small : limit ≤ 2 ^ 24
  pub within : length nodes ≤ limit
