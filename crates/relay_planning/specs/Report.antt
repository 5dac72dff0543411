-- What a plan reports of a job: each finding by its condition.
use Rattle.std.specs.Prelude.{◌≡◌, ◌⊎◌, ℕ, List, [], map, Contains, slice_get, Option, Some, None}
use Rattle.relay_aliasfile.specs.AliasFiles.{alias_file_of}
use Rattle.relay_aliasfile.specs.IncludeFiles.{include_file_of}
use Rattle.relay_aliasfile.specs.MailboxFiles.{mailbox_file_of}
use Rattle.relay_aliasfile.specs.declared.entry.Entry.{Entry}
use Rattle.relay_aliasfile.specs.declared.fault.FaultKind.{FaultKind}
use Rattle.relay_aliasfile.specs.declared.fault.FaultKind.TheVariants as file_faults
use Rattle.relay_aliasfile.specs.declared.fault.LineFault.{LineFault as FileLineFault}
use Rattle.relay_routes.specs.declared.fault.LineFault.{LineFault as TableLineFault}
use Rattle.relay_routes.specs.declared.fault.FaultKind.{FaultKind as TableFault}
use Rattle.relay_routes.specs.declared.fault.FaultKind.TheVariants as table_faults
use Rattle.relay_routes.specs.declared.unrouted.Unrouted.{Unrouted}
use Rattle.relay_routes.specs.declared.unrouted.Unrouted.TheVariants as unrouted
use Rattle.relay_routes.specs.Transports.{transport_table_of}
use Rattle.relay_routes.specs.Exchanges.{mx_table_of}
use Rattle.relay_tables.specs.declared.node.Node.{Node}
use Rattle.relay_tables.specs.declared.node.Node.TheVariants as nodes
use Rattle.relay_tables.specs.declared.include_entry.IncludeEntry.{IncludeEntry}
use Rattle.relay_tables.specs.Targets.{targets_of, recipient_target}
use Rattle.relay_wire.specs.declared.finding.Place.{Place}
use Rattle.relay_wire.specs.declared.finding.Place.TheVariants as places
use Rattle.relay_wire.specs.declared.finding.Reason.{Reason}
use Rattle.relay_wire.specs.declared.finding.Reason.TheVariants as reasons
use Rattle.relay_wire.specs.declared.finding.LineWord.{LineWord}
use Rattle.relay_wire.specs.declared.finding.LineWord.TheVariants as words
use Rattle.relay_wire.specs.declared.finding.Finding.{Finding}
use Rattle.relay_wire.specs.declared.finding.Finding.TheVariants.{Missing, NoInclude, File, Command, EmptyAlias, EmptyInclude, LoopAlias, LoopInclude, Unrouted as UnroutedFinding, Aliases, Include, Mailboxes, Mx, Transport}
use Rattle.relay_wire.specs.Findings.{finding_text_of}
use Rattle.relay_job.specs.declared.job.Job.{Job}
use Rattle.relay_job.specs.declared.job.JobInclude.{JobInclude}
use Rattle.relay_planning.specs.Delivery.{directory_of, IsReachedNode, IsOnLoop, IsUnrouted}

-- the words of a file's fault and of a table's
abbrev pub word_of : FaultKind → LineWord
word_of file_faults.BadLine = words.BadLine
word_of file_faults.BadItem = words.BadItem
word_of file_faults.Duplicate = words.Duplicate
word_of file_faults.Empty = words.Empty

abbrev pub table_word_of : TableFault → LineWord
table_word_of table_faults.BadLine = words.BadLine
table_word_of table_faults.Duplicate = words.Duplicate

abbrev pub reason_of : Unrouted → Option Reason
reason_of unrouted.Domain = Some reasons.Domain
reason_of unrouted.MxSelf = Some reasons.MxSelf
reason_of unrouted.Transport = Some reasons.Transport
reason_of (unrouted.Refused text) = Some (reasons.Refused text)
reason_of unrouted.NullMx = Some reasons.NullMx
reason_of unrouted.Memory = None

-- the numbers of the lines with faults, and the words of these
abbrev pub file_words : List FileLineFault → List (ℕ × LineWord)
file_words faults = map (λ f. (f.line, word_of f.kind)) faults

abbrev pub table_words : List TableLineFault → List (ℕ × LineWord)
table_words faults = map (λ f. (f.line, table_word_of f.kind)) faults

abbrev pub HasFault : List (ℕ × LineWord) → ℕ → LineWord → Type 0
HasFault faults number word = let fault : ℕ × LineWord = (number, word) in Contains faults fault

-- The parts of a report: what is wrong in the text of files and tables, what entries and recipients lead to and shouldn't, and
-- addresses without a route.
pub data Part : Type 0 where
  texts : Part
  entries : Part
  routes : Part

abbrev pub part_of : Finding → Part
part_of (Missing name place) = entries
part_of (NoInclude path place) = entries
part_of (File path place) = entries
part_of (Command text place) = entries
part_of (EmptyAlias name) = entries
part_of (EmptyInclude path) = entries
part_of (LoopAlias name) = entries
part_of (LoopInclude path) = entries
part_of (UnroutedFinding a reason) = routes
part_of (Aliases number word) = texts
part_of (Include path number word) = texts
part_of (Mailboxes number word) = texts
part_of (Mx number word) = texts
part_of (Transport number word) = texts

module _ (job : Job) where
  -- the entry of a reached alias, and a reached include file
  pub record IsReachedEntry (number : ℕ) (entry : Entry) : Type 0 where
    pub is : slice_get (directory_of job).aliases number ≡ Some entry
    pub reached : IsReachedNode job (nodes.Alias number)

  pub record IsReachedInclude (number : ℕ) (entry : IncludeEntry) : Type 0 where
    pub is : slice_get (directory_of job).includes number ≡ Some entry
    pub reached : IsReachedNode job (nodes.Include number)

  -- a reached entry, a reached include file or the envelope has this target
  abbrev pub HasTarget : Place → Node → Type 0
  HasTarget (places.Alias name) node = (number : ℕ) × (entry : Entry) × IsReachedEntry number entry × (entry.name ≡ name) × Contains (targets_of (directory_of job) (nodes.Alias number)) node
  HasTarget (places.Include path) node = (number : ℕ) × (entry : IncludeEntry) × IsReachedInclude number entry × (entry.path ≡ path) × Contains (targets_of (directory_of job) (nodes.Include number)) node
  HasTarget places.Envelope node = Contains (map (recipient_target (directory_of job)) job.recipients) node

  abbrev pub IsFinding : Finding → Type 0
  IsFinding (Missing name place) = HasTarget place (nodes.Missing name)
  IsFinding (NoInclude path place) = HasTarget place (nodes.NoInclude path)
  IsFinding (File path place) = HasTarget place (nodes.File path)
  IsFinding (Command text place) = HasTarget place (nodes.Command text)
  IsFinding (EmptyAlias name) = (number : ℕ) × (entry : Entry) × IsReachedEntry number entry × (entry.name ≡ name) × (entry.items ≡ [])
  IsFinding (EmptyInclude path) = (number : ℕ) × (entry : IncludeEntry) × IsReachedInclude number entry × (entry.path ≡ path) × (entry.items ≡ [])
  IsFinding (LoopAlias name) = (number : ℕ) × (entry : Entry) × IsReachedEntry number entry × (entry.name ≡ name) × IsOnLoop job (nodes.Alias number)
  IsFinding (LoopInclude path) = (number : ℕ) × (entry : IncludeEntry) × IsReachedInclude number entry × (entry.path ≡ path) × IsOnLoop job (nodes.Include number)
  IsFinding (UnroutedFinding a reason) = (cause : Unrouted) × IsUnrouted job cause a × (reason_of cause ≡ Some reason)
  IsFinding (Aliases number word) = HasFault (file_words (alias_file_of job.aliases).faults) number word
  IsFinding (Include path number word) = (i : JobInclude) × Contains job.includes i × (i.path ≡ path) × HasFault (file_words (include_file_of i.bytes).faults) number word
  IsFinding (Mailboxes number word) = HasFault (file_words (mailbox_file_of job.mailboxes).faults) number word
  IsFinding (Mx number word) = HasFault (table_words (mx_table_of job.mx).faults) number word
  IsFinding (Transport number word) = HasFault (table_words (transport_table_of job.transport).faults) number word

  -- the line of some finding
  abbrev pub IsFindingLine : List ℕ → Type 0
  IsFindingLine line = (finding : Finding) × IsFinding finding × (line ≡ finding_text_of finding)

  -- the line of some finding of a part of the report
  abbrev pub IsLineOf : Part → List ℕ → Type 0
  IsLineOf part line = (finding : Finding) × (part_of finding ≡ part) × IsFinding finding × (line ≡ finding_text_of finding)

  -- the line of some finding of what is reached, and not of the text of files and tables
  abbrev pub IsOwnFindingLine : List ℕ → Type 0
  IsOwnFindingLine line = IsLineOf entries line ⊎ IsLineOf routes line
