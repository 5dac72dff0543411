-- What becomes of each envelope of many.
use Rattle.std.specs.Prelude.{◌≡◌, ℕ, Bool, false, true, nat_lt, List, ◌++◌, length, flat_map, slice_get, Option, Some, None, Result, Ok, Err, if◌then◌else◌, ⊤}
use Rattle.std.specs.List.{fold}
use Rattle.relay_wire.specs.declared.plan.Plan.{Plan}
use Rattle.relay_job.specs.declared.job.Job.{Job}
use Rattle.relay_job.specs.declared.envelope.Envelope.{Envelope}
use Rattle.relay_job.specs.declared.fault.RunFault.{RunFault}
use Rattle.relay_job.specs.declared.fault.RunFault.TheVariants as faults
use Rattle.relay_job.specs.Envelopes.{envelope_of, with_envelope}
use Rattle.relay_envelopes.specs.declared.refusal.Refusal.{Refusal}
use Rattle.relay_envelopes.specs.declared.refusal.Refusal.TheVariants as refusals
use Rattle.relay_envelopes.specs.declared.counts.EnvelopeCounts.{EnvelopeCounts}
use Rattle.relay_envelopes.specs.Sections.{Section}
use Rattle.relay_envelopes.specs.EachText.{with_planned, with_refused}
use Rattle.relay_planning.specs.declared.options.Form.{Form}
use Rattle.relay_planning.specs.declared.options.Limits.{Limits}
use Rattle.relay_planning.specs.Limits.{IsWithin, IsRefused}
use Rattle.relay_planning.specs.Plans.{IsFewest, IsOwnPlanOf, IsSoundFor}
use Rattle.relay_returns.specs.declared.block.Return.{Return}
use Rattle.aliasplan.specs.Returns.{AreReturnsOf, IsReturnedWithin, IsUnreturned}
use Rattle.aliasplan_each.specs.declared.wording.Wording.{Wording}
use Rattle.aliasplan_each.specs.Forms.{planned_text_in, refused_text_in, returned_block_in}

-- planned, with so many findings, or refused
pub data Outcome : Type 0 where
  planned : ℕ → Outcome
  refused : Refusal → Outcome

-- The lines that answer an envelope, and what became of it.
pub record Block : Type 0 where
  pub text : List ℕ
  pub outcome : Outcome

abbrev pub no_counts : EnvelopeCounts
no_counts = record { envelopes = 0; planned = 0; refused = 0; findings = 0 }

abbrev pub with_outcome : EnvelopeCounts → Outcome → EnvelopeCounts
with_outcome counts (planned findings) = with_planned counts findings
with_outcome counts (refused refusal) = with_refused counts

abbrev pub counts_of : List Block → EnvelopeCounts
counts_of blocks = fold (λ counts block. with_outcome counts block.outcome) no_counts blocks

abbrev pub texts_of : List Block → List ℕ
texts_of blocks = flat_map (λ block. block.text) blocks

-- Why an envelope with a fault is refused; nothing where that is no fault of an envelope's.
abbrev pub refusal_of : RunFault → Option Refusal
refusal_of (faults.BadEnvelope number) = Some (refusals.BadEnvelope number)
refusal_of faults.TooManyNames = Some refusals.TooManyNames
refusal_of faults.TooManyOwners = Some refusals.TooManyOwners
refusal_of faults.TooManyPairs = Some refusals.TooManyPairs
refusal_of faults.TooLong = Some refusals.TooLong
refusal_of faults.Read = None
refusal_of (faults.BadJob number) = None
refusal_of (faults.BadSetting number) = None
refusal_of faults.Write = None
refusal_of faults.Memory = None

-- the faults of an envelope, and the want of memory
abbrev pub IsEnvelopeFault : RunFault → Type 0
IsEnvelopeFault (faults.BadEnvelope number) = ⊤
IsEnvelopeFault faults.TooManyNames = ⊤
IsEnvelopeFault faults.TooManyOwners = ⊤
IsEnvelopeFault faults.TooManyPairs = ⊤
IsEnvelopeFault faults.TooLong = ⊤
IsEnvelopeFault faults.Memory = ⊤
IsEnvelopeFault faults.Read = ⊥
IsEnvelopeFault (faults.BadJob number) = ⊥
IsEnvelopeFault (faults.BadSetting number) = ⊥
IsEnvelopeFault faults.Write = ⊥

-- Why a job isn't planned, or its returns aren't told where they are asked for.
abbrev pub IsUnplanned : Bool → Limits → Job → RunFault → Type 0
IsUnplanned false limits job fault = IsRefused limits job fault
IsUnplanned true limits job fault = IsUnreturned limits job fault

module _ (limits : Limits) (tables : Job) where
  -- what a section says, where it isn't too long
  abbrev pub section_envelope : Section → Result Envelope RunFault
  section_envelope section = if nat_lt limits.bytes (length section.bytes) then Err faults.TooLong else envelope_of tables.settings.origin section.bytes

module _ (limits : Limits) (returns : Bool) (tables : Job) where
  -- an envelope whose job is refused for this
  pub record IsRefusedBy (section : Section) (fault : RunFault) : Type 0 where
    pub envelope : Envelope
    pub read : section_envelope limits tables section ≡ Ok envelope
    pub refused : IsUnplanned returns limits (with_envelope tables envelope) fault

  abbrev pub IsRefusedFor : Section → Refusal → Type 0
  IsRefusedFor section (refusals.BadEnvelope number) = section_envelope limits tables section ≡ Err (faults.BadEnvelope number)
  IsRefusedFor section refusals.TooManyNames = IsRefusedBy section faults.TooManyNames
  IsRefusedFor section refusals.TooManyOwners = IsRefusedBy section faults.TooManyOwners
  IsRefusedFor section refusals.TooManyPairs = IsRefusedBy section faults.TooManyPairs
  IsRefusedFor section refusals.TooLong = section_envelope limits tables section ≡ Err faults.TooLong

  -- why an envelope has no plan
  abbrev pub IsSectionFault : Section → RunFault → Type 0
  IsSectionFault section (faults.BadEnvelope number) = IsRefusedFor section (refusals.BadEnvelope number)
  IsSectionFault section faults.TooManyNames = IsRefusedFor section refusals.TooManyNames
  IsSectionFault section faults.TooManyOwners = IsRefusedFor section refusals.TooManyOwners
  IsSectionFault section faults.TooManyPairs = IsRefusedFor section refusals.TooManyPairs
  IsSectionFault section faults.TooLong = IsRefusedFor section refusals.TooLong
  IsSectionFault section faults.Memory = ⊤
  IsSectionFault section faults.Read = ⊥
  IsSectionFault section (faults.BadJob number) = ⊥
  IsSectionFault section (faults.BadSetting number) = ⊥
  IsSectionFault section faults.Write = ⊥

module _ (limits : Limits) (form : Form) (tables : Job) where
  -- An envelope that is a job's, with the tables, within the limits: the text of the plan of that job, without the findings of files and tables,
  -- which stand once for all envelopes.
  pub record IsPlanned (section : Section) (text : List ℕ) (findings : ℕ) : Type 0 where
    pub envelope : Envelope
    pub read : section_envelope limits tables section ≡ Ok envelope
    pub within : IsWithin limits (with_envelope tables envelope)
    pub plan : Plan
    pub planned : IsOwnPlanOf (with_envelope tables envelope) plan
    pub sound : IsSoundFor (with_envelope tables envelope) plan.transactions
    pub fewest : IsFewest (with_envelope tables envelope) plan.transactions
    pub written : text ≡ planned_text_in form section.id plan
    pub counted : findings ≡ length plan.findings

  -- the same, with what is returned to which sender
  pub record IsReturned (section : Section) (text : List ℕ) (findings : ℕ) : Type 0 where
    pub envelope : Envelope
    pub read : section_envelope limits tables section ≡ Ok envelope
    pub within : IsReturnedWithin limits (with_envelope tables envelope)
    pub plan : Plan
    pub planned : IsOwnPlanOf (with_envelope tables envelope) plan
    pub returns : List Return
    pub returned : AreReturnsOf (with_envelope tables envelope) returns
    pub sound : IsSoundFor (with_envelope tables envelope) plan.transactions
    pub fewest : IsFewest (with_envelope tables envelope) plan.transactions
    pub written : text ≡ returned_block_in form section.id plan returns
    pub counted : findings ≡ length plan.findings

  -- with returns or without
  abbrev pub IsPlannedWith : Bool → Section → List ℕ → ℕ → Type 0
  IsPlannedWith false section text findings = IsPlanned section text findings
  IsPlannedWith true section text findings = IsReturned section text findings

module _ (limits : Limits) (wording : Wording) (tables : Job) where
  -- a refused envelope has a line in place of a plan
  pub record IsRefusedBlock (section : Section) (text : List ℕ) (refusal : Refusal) : Type 0 where
    pub refused : IsRefusedFor limits wording.returns tables section refusal
    pub written : text ≡ refused_text_in wording.form section.id refusal

  abbrev pub IsOutcome : Section → List ℕ → Outcome → Type 0
  IsOutcome section text (planned findings) = IsPlannedWith limits wording.form tables wording.returns section text findings
  IsOutcome section text (refused refusal) = IsRefusedBlock section text refusal

  abbrev pub IsBlock : Section → Block → Type 0
  IsBlock section block = IsOutcome section block.text block.outcome

  -- a block for each section, in order
  pub record AreBlocks (sections : List Section) (blocks : List Block) : Type 0 where
    pub len : length blocks ≡ length sections
    pub each : (k : ℕ) (section : Section) (block : Block) → slice_get sections k ≡ Some section → slice_get blocks k ≡ Some block → IsBlock section block

  -- the answer grows by the block of a section
  pub record Grows (section : Section) (old new : List ℕ) (before after : EnvelopeCounts) : Type 0 where
    pub block : Block
    pub is : IsBlock section block
    pub written : new ≡ old ++ block.text
    pub counted : after ≡ with_outcome before block.outcome

  -- the answer grows by a block for each of some sections
  pub record GrowsByAll (sections : List Section) (old new : List ℕ) (before after : EnvelopeCounts) : Type 0 where
    pub blocks : List Block
    pub are_blocks : AreBlocks sections blocks
    pub written : new ≡ old ++ texts_of blocks
    pub counted : after ≡ fold (λ counts block. with_outcome counts block.outcome) before blocks
