-- Which addresses a job leads to, under which sender, and by which route (local(8) of Postfix; RFC 5321 sections 3.9 and 5).
use Rattle.std.specs.Prelude.{◌≡◌, ℕ, ◌∷◌, map, Contains, Option, Some, None, Result, Ok, Err}
use Rattle.relay_text.specs.AddressParts.{AddressParts}
use Rattle.relay_aliasfile.specs.AliasFiles.{alias_file_of}
use Rattle.relay_aliasfile.specs.IncludeFiles.{include_file_of}
use Rattle.relay_aliasfile.specs.MailboxFiles.{mailbox_file_of}
use Rattle.relay_tables.specs.declared.node.Node.{Node}
use Rattle.relay_tables.specs.declared.node.Node.TheVariants.{Alias, Include, Mailbox, Remote, Missing, NoInclude, Command, File}
use Rattle.relay_tables.specs.declared.include_entry.IncludeEntry.{IncludeEntry}
use Rattle.relay_tables.specs.declared.local.Local.{Local}
use Rattle.relay_tables.specs.Directory.{Directory}
use Rattle.relay_tables.specs.GraphParts.{GraphParts}
use Rattle.relay_tables.specs.Graphs.{IsGraphOf, IsGraphFrom}
use Rattle.relay_tables.specs.Targets.{targets_of}
use Rattle.relay_tables.specs.Senders.{Sender, Pair}
use Rattle.relay_rounds.specs.Walks.{IsOnCycle}
use Rattle.relay_pairs.specs.Chains.{IsReachedBy, HasMoreBy, HasAtMostBy}
use Rattle.relay_routes.specs.declared.route.Route.{Route}
use Rattle.relay_routes.specs.declared.unrouted.Unrouted.{Unrouted}
use Rattle.relay_routes.specs.Transports.{transport_table_of}
use Rattle.relay_routes.specs.Exchanges.{mx_table_of}
use Rattle.relay_routes.specs.Routing.{Routing}
use Rattle.relay_routes.specs.Routes.{route_of, route_via_of}
use Rattle.relay_job.specs.declared.settings.Settings.{Settings}
use Rattle.relay_job.specs.declared.job.Job.{Job}
use Rattle.relay_job.specs.declared.job.JobInclude.{JobInclude}

-- an include file by its path
abbrev pub entry_of_include : JobInclude → IncludeEntry
entry_of_include i = record { path = i.path; items = (include_file_of i.bytes).items }

-- which domains are local, and how a local name is read
abbrev pub local_of : Settings → Local
local_of s = record { origin = s.origin; domains = s.destinations; delimiter = s.delimiter; expand = s.expand }

module _ (job : Job) where
  -- the job's tables, as its sections say
  abbrev pub directory_of : Directory
  directory_of = record {
    local = local_of job.settings;
    aliases = (alias_file_of job.aliases).entries;
    includes = map entry_of_include job.includes;
    mailboxes = (mailbox_file_of job.mailboxes).names;
  }

  -- the relay's own names are its host name, its origin and its local domains
  abbrev pub routing_of : Routing
  routing_of = record {
    settings = record { own_names = job.settings.hostname ∷ job.settings.origin ∷ job.settings.destinations; delimiter = job.settings.delimiter; default_transport = job.settings.default_transport; seed = job.settings.seed };
    transports = transport_table_of job.transport;
    exchanges = mx_table_of job.mx;
  }

  -- A chain starts at the envelope's sender with the target of a recipient. A pair of sender and node is reached where some chain of
  -- steps, of any length, ends in it; a node where some pair with it is.
  abbrev pub IsReachedPair : Pair → Type 0
  IsReachedPair pair = IsReachedBy directory_of job.sender job.recipients pair

  abbrev pub IsReachedNode : Node → Type 0
  IsReachedNode node = (sender : Sender) × IsReachedPair (record { sender = sender; node = node })

  -- an alias or include file from which a chain of one or more items leads to itself
  abbrev pub IsOnLoop : Node → Type 0
  IsOnLoop node = IsOnCycle (λ from to. Contains (targets_of directory_of from) to) node

  -- The final nodes are mailboxes, which go by their setting, and remote addresses, which go by the tables. Other nodes have no route.
  abbrev pub final_route : Node → Option (Result Route Unrouted)
  final_route (Mailbox a) = Some (route_via_of routing_of job.settings.mailbox_transport a)
  final_route (Remote a) = Some (route_of routing_of a)
  final_route (Alias number) = None
  final_route (Include number) = None
  final_route (Missing name) = None
  final_route (NoInclude path) = None
  final_route (Command text) = None
  final_route (File path) = None

  abbrev pub final_address : Node → Option AddressParts
  final_address (Mailbox a) = Some a
  final_address (Remote a) = Some a
  final_address (Alias number) = None
  final_address (Include number) = None
  final_address (Missing name) = None
  final_address (NoInclude path) = None
  final_address (Command text) = None
  final_address (File path) = None

  -- an address that is reached under a sender and has this route
  pub record IsPlaced (sender : Sender) (route : Route) (a : AddressParts) : Type 0 where
    pub node : Node
    pub reached : IsReachedPair (record { sender = sender; node = node })
    pub address : final_address node ≡ Some a
    pub routed : final_route node ≡ Some (Ok route)

  -- an address that is reached and has no route, for this reason
  pub record IsUnrouted (reason : Unrouted) (a : AddressParts) : Type 0 where
    pub node : Node
    pub reached : IsReachedNode node
    pub address : final_address node ≡ Some a
    pub unrouted : final_route node ≡ Some (Err reason)

  -- more than n pairs are reached, and no more than n
  abbrev pub HasMorePairs : ℕ → Type 0
  HasMorePairs n = HasMoreBy directory_of job.sender job.recipients n

  abbrev pub HasAtMostPairs : ℕ → Type 0
  HasAtMostPairs n = HasAtMostBy directory_of job.sender job.recipients n

  -- a graph of the job's tables and envelope
  abbrev pub IsJobGraph : GraphParts → Type 0
  IsJobGraph g = IsGraphOf directory_of job.sender job.recipients g

  -- a graph on which all stands that the job's recipients lead to
  abbrev pub IsJobPart : GraphParts → Type 0
  IsJobPart g = IsGraphFrom directory_of job.sender job.recipients g
