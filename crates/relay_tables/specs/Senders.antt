-- The sender after a node (local(8) of Postfix, "owner-aliasname" and expand_owner_alias of postconf(5); RFC 5321 section 3.9.2:
-- a list's sender is the person who administers it), and a step from a sender and a node to the next.
use Rattle.std.specs.Prelude.{◌≡◌, ℕ, List, [], ◌∷◌, ◌++◌, codes, Contains, slice_get, Option, Some, None, option_and_then, if◌then◌else◌}
use Rattle.relay_text.specs.AddressParts.{AddressParts}
use Rattle.relay_aliasfile.specs.declared.item.Item.{Item}
use Rattle.relay_aliasfile.specs.declared.item.Item.TheVariants.{Bare, Full}
use Rattle.relay_aliasfile.specs.declared.entry.Entry.{Entry}
use Rattle.relay_tables.specs.declared.node.Node.{Node}
use Rattle.relay_tables.specs.declared.node.Node.TheVariants.{Alias, Include, Mailbox, Remote, Missing, NoInclude, Command, File}
use Rattle.relay_tables.specs.Directory.{Directory}
use Rattle.relay_tables.specs.Targets.{alias_number, at_origin, targets_of}

-- no address is the null sender
abbrev pub Sender : Type 0
Sender = Option AddressParts

-- a sender, and what it is a sender of
pub record Pair : Type 0 where
  pub sender : Sender
  pub node : Node

module _ (d : Directory) where
  abbrev pub owner_name : Entry → List ℕ
  owner_name e = codes "owner-" ++ e.name

  -- The owner of an alias `a` is the alias `owner-a`, where there is one.
  abbrev pub owner_number : ℕ → Option ℕ
  owner_number alias = option_and_then (λ e. alias_number d (owner_name e)) (slice_get d.aliases alias)

  -- The one address that a list of items is, with a bare name at the origin, as it stands.
  abbrev pub one_address : List Item → Option AddressParts
  one_address (Bare name ∷ []) = Some (at_origin d name)
  one_address (Full a ∷ []) = Some a
  one_address items = None

  -- The sender that an owner alias gives: itself at the origin, or where `expand` says so, the one address that it lists.
  abbrev pub expanded : Entry → Option AddressParts → AddressParts
  expanded owner None = at_origin d owner.name
  expanded owner (Some a) = if d.local.expand then a else at_origin d owner.name

  abbrev pub sender_by : Entry → AddressParts
  sender_by owner = expanded owner (one_address owner.items)

  abbrev pub owner_entry : ℕ → Option Entry
  owner_entry alias = option_and_then (λ owner. slice_get d.aliases owner) (owner_number alias)

  abbrev pub sender_or : Sender → Option Entry → Sender
  sender_or sender None = sender
  sender_or sender (Some owner) = Some (sender_by owner)

  -- What an alias with an owner expands to has the owner's sender, whatever the sender was before. Every other node leaves it.
  abbrev pub sender_past : Sender → Node → Sender
  sender_past sender (Alias number) = sender_or sender (owner_entry number)
  sender_past sender (Include number) = sender
  sender_past sender (Mailbox a) = sender
  sender_past sender (Remote a) = sender
  sender_past sender (Missing name) = sender
  sender_past sender (NoInclude path) = sender
  sender_past sender (Command text) = sender
  sender_past sender (File path) = sender

  -- A step leads to a target of one of the node's items, under the sender after the node.
  pub record Step (from to : Pair) : Type 0 where
    pub target : Contains (targets_of d from.node) to.node
    pub sender : to.sender ≡ sender_past from.sender from.node
