-- What a name, an item and a recipient stand for (local(8) of Postfix: aliases before mailboxes, "address extension", and a
-- user's own listing; aliases(5) for include files). Which listing is one's own, with an extension too, is this profile's choice.
use Rattle.std.specs.Prelude.{ℕ, Bool, ◌||◌, ◌==◌, List, [], ◌∷◌, map, position, slice_get, Option, Some, None, option_map, option_and_then, if◌then◌else◌}
use Rattle.std.specs.Str.{bytes_eq}
use Rattle.relay_text.specs.Bytes.{folded, has_text, first_of}
use Rattle.relay_text.specs.AddressParts.{AddressParts}
use Rattle.relay_text.specs.Addresses.{base_of}
use Rattle.relay_aliasfile.specs.declared.item.Item.{Item}
use Rattle.relay_aliasfile.specs.declared.item.Item.TheVariants.{Bare, Full, Include as Included, Command as Piped, File as Stored}
use Rattle.relay_aliasfile.specs.declared.entry.Entry.{Entry}
use Rattle.relay_tables.specs.declared.local.Local.{Local}
use Rattle.relay_tables.specs.declared.include_entry.IncludeEntry.{IncludeEntry}
use Rattle.relay_tables.specs.declared.target.Target.{Target}
use Rattle.relay_tables.specs.declared.target.Target.TheVariants as named
use Rattle.relay_tables.specs.declared.node.Node.{Node}
use Rattle.relay_tables.specs.declared.node.Node.TheVariants.{Alias, Include, Mailbox, Remote, Missing, NoInclude, Command, File}
use Rattle.relay_tables.specs.Directory.{Directory}

-- An address is local where its domain is the origin or one of the local domains.
abbrev pub is_local_address : Local → AddressParts → Bool
is_local_address local a = bytes_eq a.domain local.origin || has_text local.domains a.domain

module _ (d : Directory) where
  -- the number of the alias of a folded name
  abbrev pub alias_number : List ℕ → Option ℕ
  alias_number name = position (λ (e : Entry). bytes_eq name e.name) d.aliases

  abbrev pub include_number : List ℕ → Option ℕ
  include_number path = position (λ (e : IncludeEntry). bytes_eq path e.path) d.includes

  abbrev pub has_mailbox : List ℕ → Bool
  has_mailbox name = has_text d.mailboxes name

  -- the name without its extension, where it's split
  abbrev pub base_name : List ℕ → Option (List ℕ)
  base_name name = base_of name d.local.delimiter

  -- an alias other than the parent itself: an entry's own name isn't taken as its alias again
  abbrev pub other_than : Option ℕ → ℕ → Option ℕ
  other_than None number = Some number
  other_than (Some parent) number = if number == parent then None else Some number

  abbrev pub alias_beside : Option ℕ → List ℕ → Option ℕ
  alias_beside parent name = option_and_then (other_than parent) (alias_number name)

  abbrev pub mailbox_of : List ℕ → Option Target
  mailbox_of name = if has_mailbox name then Some named.Mailbox else None

  -- the first of these that is there, or else missing
  abbrev pub target_from : Option Target → Target
  target_from None = named.Missing
  target_from (Some target) = target

  -- What a folded name stands for in a parent, the first that there is: the alias of the name, the alias of its base, the mailbox
  -- of the name, the mailbox of its base. Where there is none, the name is missing.
  unfoldable pub resolved : List ℕ → Option ℕ → Target
  resolved name parent = target_from (first_of (
      option_map named.Alias (alias_beside parent name)
      ∷ option_map named.Alias (option_and_then (alias_beside parent) (base_name name))
      ∷ mailbox_of name
      ∷ option_and_then mailbox_of (base_name name)
      ∷ []))

  -- A mailbox is written as the name, extension kept, at the origin.
  abbrev pub at_origin : List ℕ → AddressParts
  at_origin name = record { local = name; domain = d.local.origin }

  abbrev pub node_named : List ℕ → Target → Node
  node_named name (named.Alias number) = Alias number
  node_named name named.Mailbox = Mailbox (at_origin name)
  node_named name named.Missing = Missing name

  abbrev pub name_target : Option ℕ → List ℕ → Node
  name_target parent name = node_named (folded name) (resolved (folded name) parent)

  abbrev pub address_target : Option ℕ → AddressParts → Node
  address_target parent a = if is_local_address d.local a then name_target parent a.local else Remote a

  abbrev pub include_target : List ℕ → Option ℕ → Node
  include_target path (Some number) = Include number
  include_target path None = NoInclude path

  -- The target of an item that stands in a parent.
  abbrev pub item_target : Option ℕ → Item → Node
  item_target parent (Bare name) = name_target parent name
  item_target parent (Full a) = address_target parent a
  item_target parent (Included path) = include_target path (include_number path)
  item_target parent (Piped text) = Command text
  item_target parent (Stored path) = File path

  -- The target of a recipient of the envelope.
  abbrev pub recipient_target : AddressParts → Node
  recipient_target a = address_target None a

  abbrev pub items_of_entry : Option Entry → List Item
  items_of_entry None = []
  items_of_entry (Some e) = e.items

  abbrev pub items_of_include : Option IncludeEntry → List Item
  items_of_include None = []
  items_of_include (Some e) = e.items

  -- The targets of a node's good items, in their order. Only an alias is itself a parent.
  abbrev pub targets_of : Node → List Node
  targets_of (Alias number) = map (item_target (Some number)) (items_of_entry (slice_get d.aliases number))
  targets_of (Include number) = map (item_target None) (items_of_include (slice_get d.includes number))
  targets_of (Mailbox a) = []
  targets_of (Remote a) = []
  targets_of (Missing name) = []
  targets_of (NoInclude path) = []
  targets_of (Command text) = []
  targets_of (File path) = []
