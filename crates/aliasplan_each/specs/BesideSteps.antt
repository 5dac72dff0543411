-- The steps of a run over envelopes that come beside the tables.
use Rattle.std.specs.Prelude.{◌≡◌, ℕ, List, [], length, take, Option, ⊤}
use Rattle.std.specs.Io.KnownBytes.{Appends}
use Rattle.relay_job.specs.declared.job.Job.{Job}
use Rattle.relay_job.specs.declared.fault.RunFault.{RunFault}
use Rattle.relay_job.specs.declared.fault.RunFault.TheVariants.{Read, TooLong, BadJob, BadSetting, BadEnvelope, TooManyNames, TooManyOwners, TooManyPairs, Write, Memory}
use Rattle.relay_envelopes.specs.declared.counts.EnvelopeCounts.{EnvelopeCounts}
use Rattle.relay_envelopes.specs.Sections.{Section}
use Rattle.relay_planning.specs.declared.options.Form.{Form}
use Rattle.aliasplan_each.specs.declared.wording.Wording.{Wording}
use Rattle.relay_planning.specs.declared.options.Limits.{Limits}
use Rattle.aliasplan.specs.Checks.{AreLines}
use Rattle.relay_planning.specs.Report.{texts, IsLineOf}
use Rattle.aliasplan_each.specs.Forms.{tables_text_in}
use Rattle.aliasplan_each.specs.Blocks.{Block, with_outcome, IsBlock}

-- the faults of steps that write
abbrev pub IsWriteFault : RunFault → Type 0
IsWriteFault Write = ⊤
IsWriteFault Memory = ⊤
IsWriteFault Read = ⊥
IsWriteFault TooLong = ⊥
IsWriteFault (BadJob number) = ⊥
IsWriteFault (BadSetting number) = ⊥
IsWriteFault (BadEnvelope number) = ⊥
IsWriteFault TooManyNames = ⊥
IsWriteFault TooManyOwners = ⊥
IsWriteFault TooManyPairs = ⊥

-- the findings of the tables are written, so many
pub record WritesFindings (form : Form) (tables : Job) (old new : Option (List ℕ)) (count : ℕ) : Type 0 where
  pub findings : List (List ℕ)
  pub are_findings : AreLines (IsLineOf tables texts) findings
  pub written : Appends old new (tables_text_in form findings)
  pub counted : count ≡ length findings

pub record FrontsFindings (form : Form) (tables : Job) (old new : Option (List ℕ)) : Type 0 where
  pub findings : List (List ℕ)
  pub are_findings : AreLines (IsLineOf tables texts) findings
  pub count : ℕ
  pub written : Appends old new (take count (tables_text_in form findings))

module _ (limits : Limits) (wording : Wording) (tables : Job) where
  -- the block of a section is written and counted
  pub record WritesBlock (section : Section) (old new : Option (List ℕ)) (before after : EnvelopeCounts) : Type 0 where
    pub block : Block
    pub is : IsBlock limits wording tables section block
    pub written : Appends old new block.text
    pub counted : after ≡ with_outcome before block.outcome

  -- a front of the block is written, or nothing
  pub data FrontsBlock (section : Section) (old new : Option (List ℕ)) : Type 0 where
    nothing : Appends old new [] → FrontsBlock section old new
    some : (block : Block) (count : ℕ) → IsBlock limits wording tables section block → Appends old new (take count block.text) → FrontsBlock section old new
