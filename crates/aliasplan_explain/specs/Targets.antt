-- What is asked for, and what nodes stand for.
use Rattle.std.specs.Prelude.{◌≡◌, ◌⊎◌, Option, Some, None, option_map, slice_get, if◌then◌else◌}
use Rattle.relay_text.specs.Bytes.{folded}
use Rattle.relay_text.specs.AddressParts.{AddressParts}
use Rattle.relay_aliasfile.specs.declared.entry.Entry.{Entry as AliasEntry}
use Rattle.relay_tables.specs.declared.node.Node.{Node}
use Rattle.relay_tables.specs.declared.node.Node.TheVariants as nodes
use Rattle.relay_tables.specs.declared.include_entry.IncludeEntry.{IncludeEntry}
use Rattle.relay_tables.specs.Directory.{Directory}
use Rattle.relay_tables.specs.Targets.{at_origin, is_local_address, recipient_target}
use Rattle.relay_job.specs.declared.job.Job.{Job}
use Rattle.relay_explain.specs.declared.asked.Asked.{Asked}
use Rattle.relay_explain.specs.declared.asked.Asked.TheVariants as asked
use Rattle.relay_explain.specs.declared.entry.Entry.{Entry}
use Rattle.relay_explain.specs.declared.entry.Entry.TheVariants as entries
use Rattle.relay_explain.specs.declared.target.Target.{Target}
use Rattle.relay_explain.specs.declared.target.Target.TheVariants as targets
use Rattle.relay_planning.specs.Delivery.{directory_of, IsReachedNode}

module _ (d : Directory) where
  -- an entry by its name, or an include file by its path, if there is such a one
  abbrev pub entry_at : Node → Option Entry
  entry_at (nodes.Alias number) = option_map (λ (e : AliasEntry). entries.Alias e.name) (slice_get d.aliases number)
  entry_at (nodes.Include number) = option_map (λ (e : IncludeEntry). entries.Include e.path) (slice_get d.includes number)
  entry_at (nodes.Mailbox a) = None
  entry_at (nodes.Remote a) = None
  entry_at (nodes.Missing name) = None
  entry_at (nodes.NoInclude path) = None
  entry_at (nodes.Command text) = None
  entry_at (nodes.File path) = None

  abbrev pub target_at : Node → Option Target
  target_at (nodes.Alias number) = option_map (λ (e : AliasEntry). targets.Alias e.name) (slice_get d.aliases number)
  target_at (nodes.Include number) = option_map (λ (e : IncludeEntry). targets.Include e.path) (slice_get d.includes number)
  target_at (nodes.Mailbox a) = Some (targets.To a)
  target_at (nodes.Remote a) = Some (targets.To a)
  target_at (nodes.Missing name) = Some (targets.Missing name)
  target_at (nodes.NoInclude path) = Some (targets.NoInclude path)
  target_at (nodes.Command text) = Some (targets.Command text)
  target_at (nodes.File path) = Some (targets.File path)

  -- A name is one at the origin.
  abbrev pub asked_address : Asked → AddressParts
  asked_address (asked.Address a) = a
  asked_address (asked.Name a) = at_origin d a.local

  -- what the asked name or address stands for as a recipient
  abbrev pub stands_for : Asked → Node
  stands_for question = recipient_target d (asked_address question)

  -- The node of an address that mail is delivered to: a mailbox at the origin where its domain is local, else the address itself.
  abbrev pub delivered : AddressParts → Node
  delivered a = if is_local_address d.local a then nodes.Mailbox (at_origin d (folded a.local)) else nodes.Remote a

-- An address is asked for as one that mail is delivered to, where mail is; else as what it stands for as a recipient. A name is asked for
-- as what it stands for.
abbrev pub IsAskedFor : Job → Asked → Node → Type 0
IsAskedFor job (asked.Name a) node = node ≡ stands_for (directory_of job) (asked.Name a)
IsAskedFor job (asked.Address a) node =
    (IsReachedNode job (delivered (directory_of job) a) × (node ≡ delivered (directory_of job) a))
    ⊎ ((¬ IsReachedNode job (delivered (directory_of job) a)) × (node ≡ stands_for (directory_of job) (asked.Address a)))
