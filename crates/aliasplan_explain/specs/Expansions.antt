-- What names and addresses expand to: the addresses of the plan of a message to them from the null sender (RFC 5321 section 4.5.5).
use Rattle.std.specs.Prelude.{◌≡◌, ◌⊎◌, ℕ, ◌<◌, ◌≤◌, List, [], ◌∷◌, ◌++◌, length, map, take, Contains, Bool, true, false, Option, Some, None, option_and_then, slice_get, Ok, Err, ⊤}
use Rattle.std.specs.Io.KnownBytes.{Appends}
use Rattle.relay_text.specs.AddressParts.{AddressParts}
use Rattle.relay_text.specs.Addresses.{path_text_of}
use Rattle.relay_routes.specs.declared.route.Route.{Route}
use Rattle.relay_routes.specs.declared.unrouted.Unrouted.{Unrouted}
use Rattle.relay_tables.specs.GraphParts.{GraphParts}
use Rattle.relay_tables.specs.Senders.{Sender}
use Rattle.relay_pairs.specs.declared.reached.Reached.{Reached}
use Rattle.relay_wire.specs.PlanText.{lines_of}
use Rattle.relay_job.specs.declared.job.Job.{Job}
use Rattle.relay_job.specs.declared.fault.RunFault.{RunFault}
use Rattle.relay_job.specs.declared.fault.RunFault.TheVariants.{Read, TooLong, BadJob, BadSetting, BadEnvelope, TooManyNames, TooManyOwners, TooManyPairs, Write, Memory}
use Rattle.relay_job.specs.Envelopes.{with_envelope}
use Rattle.relay_job.specs.Tables.{tables_of}
use Rattle.relay_explain.specs.declared.asked.Asked.{Asked}
use Rattle.relay_explain.specs.declared.asked.Asked.TheVariants as asked
use Rattle.relay_planning.specs.declared.options.Limits.{Limits}
use Rattle.relay_planning.specs.Delivery.{final_address, IsPlaced, IsReachedPair, IsUnrouted}
use Rattle.relay_planning.specs.Limits.{IsRefused, IsWithin}
use Rattle.aliasplan.specs.Checks.{AreLines}

-- A name stands at the origin.
abbrev pub recipient_for : List ℕ → Asked → AddressParts
recipient_for origin (asked.Address a) = a
recipient_for origin (asked.Name a) = record { local = a.local; domain = origin }

-- the job of the null sender who writes to these, by the same files and tables
abbrev pub to_asked : Job → List Asked → Job
to_asked tables questions = with_envelope tables (record { sender = None; recipients = map (recipient_for tables.settings.origin) questions })

-- an address by itself, or behind its sender with a tab between them
abbrev pub sender_column : Bool → Sender → List ℕ
sender_column false sender = []
sender_column true sender = path_text_of sender ++ 9 ∷ []

abbrev pub expansion_line : Bool → Sender → AddressParts → List ℕ
expansion_line with_senders sender a = sender_column with_senders sender ++ path_text_of (Some a)

module _ (job : Job) where
  -- Under this sender the address goes out in a transaction of the plan, or it is one of those without a route, which are its findings.
  abbrev pub IsExpanded : Sender → AddressParts → Type 0
  IsExpanded sender a = ((route : Route) × IsPlaced job sender route a) ⊎ ((cause : Unrouted) × (u : IsUnrouted job cause a) × IsReachedPair job (record { sender = sender; node = u.node }))

  pub record IsExpansionLine (with_senders : Bool) (line : List ℕ) : Type 0 where
    pub sender : Sender
    pub address : AddressParts
    pub expanded : IsExpanded sender address
    pub is : line ≡ expansion_line with_senders sender address

-- What becomes of a text: a line for each address, or for each sender and address, in the order of their bytes, and how many there are.
pub record IsExpansionText (limits : Limits) (questions : List Asked) (with_senders : Bool) (input text : List ℕ) (count : ℕ) : Type 0 where
  pub size : length input ≤ limits.bytes
  pub tables : Job
  pub read : tables_of input ≡ Ok tables
  pub within : IsWithin limits (to_asked tables questions)
  pub lines : List (List ℕ)
  pub expanded : AreLines (IsExpansionLine (to_asked tables questions) with_senders) lines
  pub written : text ≡ lines_of lines
  pub counted : count ≡ length lines

-- that text is written
pub record WritesExpansion (limits : Limits) (questions : List Asked) (with_senders : Bool) (input : List ℕ) (old new : Option (List ℕ)) (count : ℕ) : Type 0 where
  pub text : List ℕ
  pub due : IsExpansionText limits questions with_senders input text count
  pub written : Appends old new text

-- A failed write: a front of that text is written behind what was there.
pub record WritesExpansionFront (limits : Limits) (questions : List Asked) (with_senders : Bool) (input : List ℕ) (old new : Option (List ℕ)) : Type 0 where
  pub text : List ℕ
  pub lines : ℕ
  pub due : IsExpansionText limits questions with_senders input text lines
  pub count : ℕ
  pub written : Appends old new (take count text)

-- the text is within the limit, and no files and tables
pub record RefusesTables (limits : Limits) (input : List ℕ) (fault : RunFault) : Type 0 where
  pub size : length input ≤ limits.bytes
  pub read : tables_of input ≡ Err fault

-- the text is within the limit, and the message to these is refused
pub record RefusesMessage (limits : Limits) (questions : List Asked) (input : List ℕ) (fault : RunFault) : Type 0 where
  pub size : length input ≤ limits.bytes
  pub tables : Job
  pub read : tables_of input ≡ Ok tables
  pub refused : IsRefused limits (to_asked tables questions) fault

-- the faults of a text that is read whole
abbrev pub RefusesAskedBytes : Limits → List Asked → List ℕ → RunFault → Type 0
RefusesAskedBytes limits questions input Read = ⊥
RefusesAskedBytes limits questions input TooLong = ⊥
RefusesAskedBytes limits questions input (BadJob line) = RefusesTables limits input (BadJob line)
RefusesAskedBytes limits questions input (BadSetting line) = RefusesTables limits input (BadSetting line)
RefusesAskedBytes limits questions input (BadEnvelope line) = ⊥
RefusesAskedBytes limits questions input TooManyNames = RefusesMessage limits questions input TooManyNames
RefusesAskedBytes limits questions input TooManyOwners = RefusesMessage limits questions input TooManyOwners
RefusesAskedBytes limits questions input TooManyPairs = RefusesMessage limits questions input TooManyPairs
RefusesAskedBytes limits questions input Write = ⊥
RefusesAskedBytes limits questions input Memory = ⊤

-- the faults of a run: those of reading and writing have clauses of their own
abbrev pub RefusesAsked : Limits → List Asked → List ℕ → RunFault → Type 0
RefusesAsked limits questions input Read = ⊤
RefusesAsked limits questions input TooLong = limits.bytes < length input
RefusesAsked limits questions input Write = ⊤
RefusesAsked limits questions input (BadJob line) = RefusesAskedBytes limits questions input (BadJob line)
RefusesAsked limits questions input (BadSetting line) = RefusesAskedBytes limits questions input (BadSetting line)
RefusesAsked limits questions input (BadEnvelope line) = RefusesAskedBytes limits questions input (BadEnvelope line)
RefusesAsked limits questions input TooManyNames = RefusesAskedBytes limits questions input TooManyNames
RefusesAsked limits questions input TooManyOwners = RefusesAskedBytes limits questions input TooManyOwners
RefusesAsked limits questions input TooManyPairs = RefusesAskedBytes limits questions input TooManyPairs
RefusesAsked limits questions input Memory = RefusesAskedBytes limits questions input Memory

-- ---- by the numbers of a graph
module _ (job : Job) (g : GraphParts) (with_senders : Bool) where
  -- a pair of sender and node gives this line
  pub record IsPairLine (q : List ℕ) (pair : Reached) : Type 0 where
    pub sender : Sender
    pub sender_at : slice_get g.senders pair.sender ≡ Some sender
    pub address : AddressParts
    pub address_at : option_and_then (final_address job) (slice_get g.nodes pair.node) ≡ Some address
    pub is : q ≡ expansion_line with_senders sender address

  -- some pair gives it
  abbrev pub HavePairLine : List Reached → List ℕ → Type 0
  HavePairLine pairs q = (pair : Reached) × Contains pairs pair × IsPairLine q pair
