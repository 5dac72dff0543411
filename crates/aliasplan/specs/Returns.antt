-- What is returned to which sender (RFC 5321 sections 3.6.3 and 4.5.5; local(8) of Postfix: an alias with an owner sets the sender).
use Rattle.std.specs.Prelude.{◌≡◌, ◌≢◌, ◌⊎◌, ℕ, ◌≤◌, List, [], length, take, Contains, Option, Some, Ok, Err}
use Rattle.std.specs.Io.KnownBytes.{Appends}
use Rattle.relay_text.specs.AddressParts.{AddressParts}
use Rattle.relay_text.specs.TextSets.{IsAscendingBy}
use Rattle.relay_routes.specs.declared.unrouted.Unrouted.{Unrouted as Cause}
use Rattle.relay_tables.specs.declared.node.Node.{Node}
use Rattle.relay_tables.specs.declared.node.Node.TheVariants as nodes
use Rattle.relay_tables.specs.Targets.{targets_of, recipient_target}
use Rattle.relay_tables.specs.Senders.{Sender, Pair, sender_past}
use Rattle.relay_pairs.specs.Chains.{IsReachedFrom, HasMoreFromEach, HasAtMostFromEach}
use Rattle.relay_wire.specs.declared.finding.Place.{Place}
use Rattle.relay_wire.specs.declared.finding.Place.TheVariants as places
use Rattle.relay_wire.specs.declared.finding.Reason.{Reason}
use Rattle.relay_wire.specs.declared.finding.Finding.{Finding}
use Rattle.relay_wire.specs.declared.finding.Finding.TheVariants.{Missing, NoInclude, File, Command, EmptyAlias, EmptyInclude, LoopAlias, LoopInclude, Unrouted, Aliases, Include, Mailboxes, Mx, Transport}
use Rattle.relay_wire.specs.declared.plan.Plan.{Plan}
use Rattle.relay_returns.specs.declared.block.Return.{Return}
use Rattle.relay_returns.specs.Returns.{return_cmp, return_text_of, returned_json_text_of, returned_plan_text_of, returned_wire_text_of}
use Rattle.relay_job.specs.declared.job.Job.{Job}
use Rattle.relay_job.specs.declared.fault.RunFault.{RunFault}
use Rattle.relay_job.specs.declared.fault.RunFault.TheVariants.{Read, TooLong, BadJob, BadSetting, BadEnvelope, TooManyNames, TooManyOwners, TooManyPairs, Write, Memory}
use Rattle.relay_job.specs.JobText.{job_of}
use Rattle.relay_planning.specs.declared.options.Form.{Form}
use Rattle.relay_planning.specs.declared.options.Form.TheVariants as forms
use Rattle.relay_planning.specs.declared.options.Limits.{Limits}
use Rattle.relay_planning.specs.declared.summary.Summary.{Summary}
use Rattle.aliasplan.specs.Checks.{AreLines}
use Rattle.relay_planning.specs.Delivery.{directory_of, final_address, final_route}
use Rattle.relay_planning.specs.Listing.{place_of, target_finding}
use Rattle.relay_planning.specs.Limits.{IsWithin, IsRefused}
use Rattle.relay_planning.specs.Written.{summary_of}
use Rattle.aliasplan.specs.Outcomes.{Refuses}
use Rattle.relay_planning.specs.Plans.{IsFewest, IsPlanOf, IsSoundFor}
use Rattle.relay_planning.specs.Report.{reason_of}

module _ (job : Job) where
  -- an entry or include file at this place lists this target, and lists nothing
  abbrev pub Lists : Node → Place → Node → Type 0
  Lists node place target = (place_of (directory_of job) node ≡ Some place) × Contains (targets_of (directory_of job) node) target

  abbrev pub ListsNothing : Node → Place → Type 0
  ListsNothing node place = (place_of (directory_of job) node ≡ Some place) × (targets_of (directory_of job) node ≡ [])

  -- an address that has no route, for this reason
  abbrev pub HasNoWay : Node → AddressParts → Reason → Type 0
  HasNoWay node a reason = (cause : Cause) × (final_address job node ≡ Some a) × (final_route job node ≡ Some (Err cause)) × (reason_of cause ≡ Some reason)

  -- What can't be delivered at a node. Loops, and lines at fault, return nothing.
  abbrev pub IsUndelivered : Node → Finding → Type 0
  IsUndelivered node (Missing name place) = Lists node place (nodes.Missing name)
  IsUndelivered node (NoInclude path place) = Lists node place (nodes.NoInclude path)
  IsUndelivered node (File path place) = Lists node place (nodes.File path)
  IsUndelivered node (Command text place) = Lists node place (nodes.Command text)
  IsUndelivered node (EmptyAlias name) = ListsNothing node (places.Alias name)
  IsUndelivered node (EmptyInclude path) = ListsNothing node (places.Include path)
  IsUndelivered node (Unrouted a reason) = HasNoWay node a reason
  IsUndelivered node (LoopAlias name) = ⊥
  IsUndelivered node (LoopInclude path) = ⊥
  IsUndelivered node (Aliases number word) = ⊥
  IsUndelivered node (Include path number word) = ⊥
  IsUndelivered node (Mailboxes number word) = ⊥
  IsUndelivered node (Mx number word) = ⊥
  IsUndelivered node (Transport number word) = ⊥

  -- A chain from the recipient ends in a pair with such a node. The sender is the one after the node, as for all that the node leads to:
  -- an alias with an owner sets it, for what its list has and also where it lists nothing; any other node leaves it.
  pub record IsReturnedFrom (sender : Sender) (recipient : AddressParts) (finding : Finding) : Type 0 where
    pub pair : Pair
    pub reached : IsReachedFrom (directory_of job) job.sender recipient pair
    pub after : sender ≡ sender_past (directory_of job) pair.sender pair.node
    pub undelivered : IsUndelivered pair.node finding

  -- a recipient that itself is no entry and no address to deliver to, under the envelope's sender
  abbrev pub IsReturnedItself : Sender → AddressParts → Finding → Type 0
  IsReturnedItself sender recipient finding = (sender ≡ job.sender) × (target_finding places.Envelope (recipient_target (directory_of job) recipient) ≡ Some finding)

  abbrev pub IsReturned : Sender → AddressParts → Finding → Type 0
  IsReturned sender recipient finding = IsReturnedItself sender recipient finding ⊎ IsReturnedFrom sender recipient finding

  -- the line of what is returned to a sender, for some recipient of the envelope
  pub record IsReturnLine (sender : Sender) (line : List ℕ) : Type 0 where
    pub recipient : AddressParts
    pub in_envelope : Contains job.recipients recipient
    pub finding : Finding
    pub returned : IsReturned sender recipient finding
    pub is : line ≡ return_text_of finding recipient

  -- The blocks: one for each sender to whom something is returned, in the order of the senders' paths; in each exactly the lines of what
  -- is returned to it, in the order of their bytes, each once.
  pub record AreReturnsOf (returns : List Return) : Type 0 where
    pub ascending : IsAscendingBy return_cmp returns
    pub some_lines : (r : Return) → Contains returns r → r.lines ≢ []
    pub lines : (r : Return) → Contains returns r → AreLines (IsReturnLine r.sender) r.lines
    pub all : (sender : Sender) (line : List ℕ) → IsReturnLine sender line → (r : Return) × Contains returns r × (r.sender ≡ sender)

  -- more than n pairs are reached from the recipients, each counted for each recipient, and no more than n
  abbrev pub HasMoreReturnPairs : ℕ → Type 0
  HasMoreReturnPairs n = HasMoreFromEach (directory_of job) job.sender job.recipients n

  abbrev pub HasAtMostReturnPairs : ℕ → Type 0
  HasAtMostReturnPairs n = HasAtMostFromEach (directory_of job) job.sender job.recipients n

-- a job within the limits, with what is reached from each recipient
pub record IsReturnedWithin (limits : Limits) (job : Job) : Type 0 where
  pub planned : IsWithin limits job
  pub pairs : HasAtMostReturnPairs job limits.pairs

-- Why a job's returns aren't told: its plan is refused, or else too many pairs are reached from the recipients. Memory may run out at any
-- moment.
abbrev pub IsUnreturned : Limits → Job → RunFault → Type 0
IsUnreturned limits job TooManyPairs = IsRefused limits job TooManyPairs ⊎ (IsWithin limits job × HasMoreReturnPairs job limits.pairs)
IsUnreturned limits job TooManyNames = IsRefused limits job TooManyNames
IsUnreturned limits job TooManyOwners = IsRefused limits job TooManyOwners
IsUnreturned limits job Memory = IsRefused limits job Memory
IsUnreturned limits job Read = IsRefused limits job Read
IsUnreturned limits job TooLong = IsRefused limits job TooLong
IsUnreturned limits job (BadJob line) = IsRefused limits job (BadJob line)
IsUnreturned limits job (BadSetting line) = IsRefused limits job (BadSetting line)
IsUnreturned limits job (BadEnvelope line) = IsRefused limits job (BadEnvelope line)
IsUnreturned limits job Write = IsRefused limits job Write

abbrev pub returned_text_in : Form → Plan → List Return → List ℕ
returned_text_in forms.Plan p returns = returned_plan_text_of p returns
returned_text_in forms.Wire p returns = returned_wire_text_of p returns
returned_text_in forms.Json p returns = returned_json_text_of p returns

-- What becomes of a job's bytes: the text of its plan with the blocks, and the plan's numbers.
pub record IsReturnedAnswer (limits : Limits) (form : Form) (input text : List ℕ) (summary : Summary) : Type 0 where
  pub size : length input ≤ limits.bytes
  pub job : Job
  pub read : job_of input ≡ Ok job
  pub within : IsReturnedWithin limits job
  pub plan : Plan
  pub planned : IsPlanOf job plan
  pub returns : List Return
  pub returned : AreReturnsOf job returns
  pub written : text ≡ returned_text_in form plan returns
  pub summed : summary ≡ summary_of plan
  pub sound : IsSoundFor job plan.transactions
  pub fewest : IsFewest job plan.transactions

-- that text is written
pub record PlansReturns (limits : Limits) (form : Form) (input : List ℕ) (old new : Option (List ℕ)) (summary : Summary) : Type 0 where
  pub text : List ℕ
  pub due : IsReturnedAnswer limits form input text summary
  pub written : Appends old new text

-- A failed write: a front of that text is written behind what was there.
pub record WritesReturnsFront (limits : Limits) (form : Form) (input : List ℕ) (old new : Option (List ℕ)) : Type 0 where
  pub text : List ℕ
  pub summary : Summary
  pub due : IsReturnedAnswer limits form input text summary
  pub count : ℕ
  pub written : Appends old new (take count text)

-- the bytes are within the limit, and a job whose returns aren't told for too many pairs
pub record HasTooManyPairs (limits : Limits) (input : List ℕ) : Type 0 where
  pub size : length input ≤ limits.bytes
  pub job : Job
  pub read : job_of input ≡ Ok job
  pub refused : IsUnreturned limits job TooManyPairs

-- A run with returns refuses as one without, and where too many pairs are reached from the recipients.
abbrev pub RefusesReturns : Limits → List ℕ → RunFault → Type 0
RefusesReturns limits input TooManyPairs = HasTooManyPairs limits input
RefusesReturns limits input Read = Refuses limits input Read
RefusesReturns limits input TooLong = Refuses limits input TooLong
RefusesReturns limits input (BadJob line) = Refuses limits input (BadJob line)
RefusesReturns limits input (BadSetting line) = Refuses limits input (BadSetting line)
RefusesReturns limits input (BadEnvelope line) = Refuses limits input (BadEnvelope line)
RefusesReturns limits input TooManyNames = Refuses limits input TooManyNames
RefusesReturns limits input TooManyOwners = Refuses limits input TooManyOwners
RefusesReturns limits input Write = Refuses limits input Write
RefusesReturns limits input Memory = Refuses limits input Memory

-- the faults of a job's bytes, which are within the limit and read whole
abbrev pub RefusesReturnBytes : Limits → List ℕ → RunFault → Type 0
RefusesReturnBytes limits input Read = ⊥
RefusesReturnBytes limits input TooLong = ⊥
RefusesReturnBytes limits input Write = ⊥
RefusesReturnBytes limits input (BadJob line) = RefusesReturns limits input (BadJob line)
RefusesReturnBytes limits input (BadSetting line) = RefusesReturns limits input (BadSetting line)
RefusesReturnBytes limits input (BadEnvelope line) = RefusesReturns limits input (BadEnvelope line)
RefusesReturnBytes limits input TooManyNames = RefusesReturns limits input TooManyNames
RefusesReturnBytes limits input TooManyOwners = RefusesReturns limits input TooManyOwners
RefusesReturnBytes limits input TooManyPairs = RefusesReturns limits input TooManyPairs
RefusesReturnBytes limits input Memory = RefusesReturns limits input Memory
