-- The domains whose mail exchangers a job asks for (RFC 5321 section 5.1).
use Rattle.std.specs.Prelude.{◌≡◌, ◌↔◌, ℕ, ◌≤◌, List, length, take, Contains, Option, Some, None, Result, Ok, Err, option_and_then, slice_get}
use Rattle.std.specs.Io.KnownBytes.{Appends}
use Rattle.relay_text.specs.TextSets.{text_cmp, IsAscendingBy}
use Rattle.relay_tables.specs.declared.node.Node.{Node}
use Rattle.relay_tables.specs.declared.node.Node.TheVariants.{Alias, Include, Mailbox, Remote, Missing, NoInclude, Command, File}
use Rattle.relay_tables.specs.GraphParts.{GraphParts}
use Rattle.relay_routes.specs.declared.destination.Destination.{Destination}
use Rattle.relay_routes.specs.declared.unrouted.Unrouted.{Unrouted}
use Rattle.relay_routes.specs.Destinations.{destination_of, destination_via_of, looked_up_name}
use Rattle.relay_wire.specs.PlanText.{lines_of}
use Rattle.relay_job.specs.declared.job.Job.{Job}
use Rattle.relay_job.specs.JobText.{job_of}
use Rattle.relay_planning.specs.declared.options.Limits.{Limits}
use Rattle.relay_planning.specs.Delivery.{routing_of, IsReachedNode}
use Rattle.relay_planning.specs.Limits.{IsWithin}

-- the domain that the way to a destination asks for, if there is a destination and it looks exchangers up
abbrev pub domain_of_found : Result Destination Unrouted → Option (List ℕ)
domain_of_found (Ok d) = looked_up_name d
domain_of_found (Err reason) = None

module _ (job : Job) where
  -- A mailbox goes by its setting, a remote address by the transport table. Other nodes go nowhere.
  abbrev pub domain_of_node : Node → Option (List ℕ)
  domain_of_node (Mailbox a) = domain_of_found (destination_via_of job.settings.mailbox_transport a)
  domain_of_node (Remote a) = domain_of_found (destination_of (routing_of job) a)
  domain_of_node (Alias number) = None
  domain_of_node (Include number) = None
  domain_of_node (Missing name) = None
  domain_of_node (NoInclude path) = None
  domain_of_node (Command text) = None
  domain_of_node (File path) = None

  -- A domain is asked for where some node that is reached asks for it. What the job's table of exchangers has makes no difference.
  pub record IsAskedDomain (domain : List ℕ) : Type 0 where
    pub node : Node
    pub reached : IsReachedNode job node
    pub asked : domain_of_node node ≡ Some domain

  -- all of them, each once, in the order of their bytes
  pub record AreAskedDomains (domains : List (List ℕ)) : Type 0 where
    pub ascending : IsAscendingBy text_cmp domains
    pub members : (domain : List ℕ) → Contains domains domain ↔ IsAskedDomain domain

  -- the node of a number asks for a domain
  abbrev pub AsksFor : GraphParts → ℕ → List ℕ → Type 0
  AsksFor g number domain = option_and_then domain_of_node (slice_get g.nodes number) ≡ Some domain

-- What becomes of a job's bytes: a line for each domain.
pub record IsDomainText (limits : Limits) (input text : List ℕ) : Type 0 where
  pub size : length input ≤ limits.bytes
  pub job : Job
  pub read : job_of input ≡ Ok job
  pub within : IsWithin limits job
  pub domains : List (List ℕ)
  pub asked : AreAskedDomains job domains
  pub lines : text ≡ lines_of domains

-- that text is written
pub record WritesDomains (limits : Limits) (input : List ℕ) (old new : Option (List ℕ)) : Type 0 where
  pub text : List ℕ
  pub due : IsDomainText limits input text
  pub written : Appends old new text

-- A failed write: a front of that text is written behind what was there.
pub record WritesDomainsFront (limits : Limits) (input : List ℕ) (old new : Option (List ℕ)) : Type 0 where
  pub text : List ℕ
  pub due : IsDomainText limits input text
  pub count : ℕ
  pub written : Appends old new (take count text)
