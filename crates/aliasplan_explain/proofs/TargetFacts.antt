-- Every node of a graph has a target.
use Rattle.std.proofs.Common.{◌≡◌, ℕ, zero, suc, ◌+◌, ◌<◌, ◌≤◌, Bool, true, false, cond, Option, Some, None, List, [], ◌∷◌, ◌++◌, length, map, slice_get, Contains, refl, arith}
use Rattle.std.specs.Prelude.{IsSome, All, not, filter, flat_map, option_map}
use Rattle.std.specs.List.{range_with_len}
use Rattle.std.proofs.lemmas.List.Elements.{All-nil, All-cons, All-head, All-tail, All-append, All-map, All-filter, All-contains}
use Rattle.std.proofs.lemmas.Option.{slice_get_within, get_or_from_slice_get}
use Rattle.relay_text.specs.Bytes.{folded, firsts}
use Rattle.relay_text.specs.AddressParts.{AddressParts}
use Rattle.relay_aliasfile.specs.declared.entry.Entry.{Entry}
use Rattle.relay_aliasfile.specs.declared.item.Item.{Item}
use Rattle.relay_aliasfile.specs.declared.item.Item.TheVariants as items
use Rattle.relay_tables.specs.declared.include_entry.IncludeEntry.{IncludeEntry}
use Rattle.relay_tables.specs.declared.node.Node.{Node}
use Rattle.relay_tables.specs.declared.node.Node.TheVariants.{Alias, Include, Mailbox, Remote, Missing, NoInclude, Command, File}
use Rattle.relay_tables.specs.declared.target.Target.{Target as Named}
use Rattle.relay_tables.specs.declared.target.Target.TheVariants as named
use Rattle.relay_tables.specs.Directory.{Directory}
use Rattle.relay_tables.specs.GraphParts.{GraphParts}
use Rattle.relay_tables.specs.Graphs.{entry_nodes, nodes_of, same_node, IsGraphOf}
use Rattle.relay_tables.specs.Senders.{Sender}
use Rattle.relay_tables.specs.Targets.{resolved, node_named, name_target, address_target, include_number, include_target, item_target, items_of_entry, items_of_include, is_local_address, recipient_target, targets_of}
use Rattle.relay_tables.proofs.Resolved.{resolved_below, include_below}
use Rattle.relay_explain.specs.declared.asked.Asked.{Asked}
use Rattle.relay_explain.specs.declared.target.Target.TheVariants as targets
use Rattle.aliasplan_explain.specs.Targets.{target_at, asked_address, stands_for}

some_within : {X Y : Type 0} (f : X → Y) (xs : List X) (i : ℕ) → i < length xs → IsSome (option_map f (slice_get xs i))
some_within f [] i below = absurd (omega arith)
some_within f (x ∷ xs) zero below = refl
some_within f (x ∷ xs) (suc i) below = some_within f xs i (omega arith)

all_range : (P : ℕ → Type 0) (size : ℕ) → ((k : ℕ) → k < size → P k) → (a n : ℕ) → a + n ≤ size → All P (range_with_len a n)
all_range P size each a zero fits = All-nil P
all_range P size each a (suc n) fits = All-cons P a (range_with_len (a + 1) n) (each a (omega arith)) (all_range P size each (a + 1) n (omega arith))

all_flat : {X Y : Type 0} (P : Y → Type 0) (f : X → List Y) → ((x : X) → All P (f x)) → (xs : List X) → All P (flat_map f xs)
all_flat P f each [] = All-nil P
all_flat P f each (x ∷ xs) = All-append P (f x) (flat_map f xs) (each x) (all_flat P f each xs)

all_firsts : {X : Type 0} (P : X → Type 0) (same : X → X → Bool) (xs : List X) → All P xs → All P (firsts same xs)
all_firsts P same [] all = All-nil P
all_firsts P same (x ∷ xs) all =
    All-cons P x (filter (λ y. not (same x y)) (firsts same xs)) (All-head P x xs all)
    (All-filter (λ y. not (same x y)) P (firsts same xs) (all_firsts P same xs (All-tail P x xs all)))

module _ (d : Directory) where
  abbrev HasTarget : Node → Type 0
  HasTarget node = IsSome (target_at d node)

  pub alias_has_target : (number : ℕ) → number < length d.aliases → IsSome (target_at d (Alias number))
  alias_has_target number below = some_within (λ (e : Entry). targets.Alias e.name) d.aliases number below

  pub file_has_target : (number : ℕ) → number < length d.includes → IsSome (target_at d (Include number))
  file_has_target number below = some_within (λ (e : IncludeEntry). targets.Include e.path) d.includes number below

  named_has_target : (name : List ℕ) (parent : Option ℕ) (t : Named) → resolved d name parent ≡ t → IsSome (target_at d (node_named d name t))
  named_has_target name parent (named.Alias number) e = alias_has_target number (resolved_below d name parent number e)
  named_has_target name parent named.Mailbox e = refl
  named_has_target name parent named.Missing e = refl

  pub name_has_target : (parent : Option ℕ) (name : List ℕ) → IsSome (target_at d (name_target d parent name))
  name_has_target parent name = named_has_target (folded name) parent (resolved d (folded name) parent) refl

  pub address_has_target : (parent : Option ℕ) (a : AddressParts) → IsSome (target_at d (address_target d parent a))
  address_has_target parent a = at (is_local_address d.local a) where
    at : (b : Bool) → IsSome (target_at d (cond b (name_target d parent a.local) (Remote a)))
    at true = name_has_target parent a.local
    at false = refl

  pub recipient_has_target : (a : AddressParts) → IsSome (target_at d (recipient_target d a))
  recipient_has_target a = address_has_target None a

  pub stands_has_target : (q : Asked) → IsSome (target_at d (stands_for d q))
  stands_has_target q = recipient_has_target (asked_address d q)

  include_has_target : (path : List ℕ) (o : Option ℕ) → include_number d path ≡ o → IsSome (target_at d (include_target d path o))
  include_has_target path (Some number) e = file_has_target number (include_below d path number e)
  include_has_target path None e = refl

  pub item_has_target : (parent : Option ℕ) (item : Item) → IsSome (target_at d (item_target d parent item))
  item_has_target parent (items.Bare name) = name_has_target parent name
  item_has_target parent (items.Full a) = address_has_target parent a
  item_has_target parent (items.Include path) = include_has_target path (include_number d path) refl
  item_has_target parent (items.Command text) = refl
  item_has_target parent (items.File path) = refl

  all_items : (parent : Option ℕ) (these : List Item) → All HasTarget (map (item_target d parent) these)
  all_items parent these = All-map HasTarget (item_target d parent) these (λ k item below. item_has_target parent _)

  pub targets_have_target : (n : Node) → All HasTarget (targets_of d n)
  targets_have_target (Alias number) = all_items (Some number) (items_of_entry d (slice_get d.aliases number))
  targets_have_target (Include number) = all_items None (items_of_include d (slice_get d.includes number))
  targets_have_target (Mailbox a) = All-nil HasTarget
  targets_have_target (Remote a) = All-nil HasTarget
  targets_have_target (Missing name) = All-nil HasTarget
  targets_have_target (NoInclude path) = All-nil HasTarget
  targets_have_target (Command text) = All-nil HasTarget
  targets_have_target (File path) = All-nil HasTarget

  pub entry_nodes_have_target : All HasTarget (entry_nodes d)
  entry_nodes_have_target =
      let numbers = range_with_len 0 (length d.aliases) in
      let files = range_with_len 0 (length d.includes) in
      All-append HasTarget (map Alias numbers) (map Include files)
      (All-map HasTarget Alias numbers (all_range (λ k. HasTarget (Alias k)) (length d.aliases) alias_has_target 0 (length d.aliases) (omega arith)))
      (All-map HasTarget Include files (all_range (λ k. HasTarget (Include k)) (length d.includes) file_has_target 0 (length d.includes) (omega arith)))

  pub nodes_have_target : (recipients : List AddressParts) → All HasTarget (nodes_of d recipients)
  nodes_have_target recipients =
      let entries = entry_nodes d in
      let children = flat_map (targets_of d) entries in
      let roots = map (recipient_target d) recipients in
      all_firsts HasTarget same_node (entries ++ children ++ roots)
      (All-append HasTarget (entries ++ children) roots
      (All-append HasTarget entries children entry_nodes_have_target (all_flat HasTarget (targets_of d) targets_have_target entries))
      (All-map HasTarget (recipient_target d) recipients (λ k a below. recipient_has_target _)))

-- the node of a number that a graph has
pub node_has_target : (d : Directory) (sender : Sender) (recipients : List AddressParts) (g : GraphParts) → IsGraphOf d sender recipients g → (k : ℕ) (node : Node) → slice_get g.nodes k ≡ Some node → IsSome (target_at d node)
node_has_target d sender recipients g is k node at =
    let there : Contains g.nodes node = (k, slice_get_within g.nodes k node at, get_or_from_slice_get g.nodes k node node at) in
    All-contains (λ (n : Node). IsSome (target_at d n)) (nodes_of d recipients) node (nodes_have_target d recipients) ((is.nodes node).0 there)
