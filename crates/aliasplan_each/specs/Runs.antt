-- What becomes of the bytes of many envelopes.
use Rattle.std.specs.Prelude.{◌≡◌, ℕ, ◌<◌, ◌≤◌, List, ◌++◌, length, take, Option, Ok, Err, ⊤}
use Rattle.std.specs.Io.KnownBytes.{Appends}
use Rattle.relay_job.specs.declared.job.Job.{Job}
use Rattle.relay_job.specs.declared.fault.RunFault.{RunFault}
use Rattle.relay_job.specs.declared.fault.RunFault.TheVariants.{Read, TooLong, BadJob, BadSetting, BadEnvelope, TooManyNames, TooManyOwners, TooManyPairs, Write, Memory}
use Rattle.relay_job.specs.Tables.{AreTablesWithin}
use Rattle.relay_envelopes.specs.Sections.{Section, lines_behind, envelopes_of, each_tables_of}
use Rattle.relay_planning.specs.declared.options.Form.{Form}
use Rattle.aliasplan_each.specs.declared.wording.Wording.{Wording}
use Rattle.relay_planning.specs.declared.options.Limits.{Limits}
use Rattle.aliasplan.specs.Checks.{AreLines}
use Rattle.aliasplan.specs.Outcomes.{AreTableCountsWithin, HasRefusedTables}
use Rattle.relay_planning.specs.Report.{texts, IsLineOf}
use Rattle.aliasplan_each.specs.declared.summary.EachSummary.{EachSummary}
use Rattle.aliasplan_each.specs.Forms.{tables_text_in, done_text_in}
use Rattle.aliasplan_each.specs.Blocks.{Block, texts_of, counts_of, AreBlocks}

-- the earlier of a fault of the front and one of the envelopes: the settings are judged last
abbrev pub earlier_of : RunFault → RunFault → RunFault
earlier_of (BadSetting number) envelopes = envelopes
earlier_of front envelopes = front

-- what a text without a fault has
pub record AreEachParts (input : List ℕ) (tables : Job) (sections : List Section) : Type 0 where
  pub read : each_tables_of input ≡ Ok tables
  pub within : AreTablesWithin (length input) tables
  pub sections_are : sections ≡ envelopes_of (lines_behind input)

-- the lines of files and tables put behind a text, so many
pub record BeginsEach (form : Form) (tables : Job) (old new : List ℕ) (count : ℕ) : Type 0 where
  pub findings : List (List ℕ)
  pub are_findings : AreLines (IsLineOf tables texts) findings
  pub written : new ≡ old ++ tables_text_in form findings
  pub counted : count ≡ length findings

-- The answer to the sections of envelopes by tables: the findings of files and tables once, a block for each section, and what they come to.
pub record IsEachAnswer (limits : Limits) (wording : Wording) (tables : Job) (sections : List Section) (text : List ℕ) (summary : EachSummary) : Type 0 where
  pub findings : List (List ℕ)
  pub are_findings : AreLines (IsLineOf tables texts) findings
  pub blocks : List Block
  pub are_blocks : AreBlocks limits wording tables sections blocks
  pub written : text ≡ (tables_text_in wording.form findings ++ texts_of blocks) ++ done_text_in wording.form (counts_of blocks)
  pub summed : summary ≡ record { findings = length findings; counts = counts_of blocks }

-- The bytes of a text of many envelopes, within the limit: its answer.
pub record IsEachText (limits : Limits) (wording : Wording) (input text : List ℕ) (summary : EachSummary) : Type 0 where
  pub size : length input ≤ limits.bytes
  pub tables : Job
  pub read : each_tables_of input ≡ Ok tables
  pub few : AreTableCountsWithin limits tables
  pub answered : IsEachAnswer limits wording tables (envelopes_of (lines_behind input)) text summary

-- that answer is written
pub record PlansEach (limits : Limits) (wording : Wording) (input : List ℕ) (old new : Option (List ℕ)) (summary : EachSummary) : Type 0 where
  pub text : List ℕ
  pub due : IsEachText limits wording input text summary
  pub written : Appends old new text

-- A failed write: a front of the answer is written behind what was there.
pub record WritesEachFront (limits : Limits) (wording : Wording) (input : List ℕ) (old new : Option (List ℕ)) : Type 0 where
  pub text : List ℕ
  pub summary : EachSummary
  pub due : IsEachText limits wording input text summary
  pub count : ℕ
  pub written : Appends old new (take count text)

-- the bytes are within the limit, and have a fault; or their tables are refused
pub record RefusesEachText (limits : Limits) (input : List ℕ) (fault : RunFault) : Type 0 where
  pub size : length input ≤ limits.bytes
  pub read : each_tables_of input ≡ Err fault

pub record RefusesEachTables (limits : Limits) (input : List ℕ) (fault : RunFault) : Type 0 where
  pub size : length input ≤ limits.bytes
  pub tables : Job
  pub read : each_tables_of input ≡ Ok tables
  pub refused : HasRefusedTables limits tables fault

-- A run that refuses because of the bytes that it read: more than the limit, or within it and at fault. What is wrong with one envelope refuses that
-- envelope alone.
abbrev pub RefusesEach : Limits → List ℕ → RunFault → Type 0
RefusesEach limits input Read = ⊤
RefusesEach limits input TooLong = limits.bytes < length input
RefusesEach limits input (BadJob number) = RefusesEachText limits input (BadJob number)
RefusesEach limits input (BadSetting number) = RefusesEachText limits input (BadSetting number)
RefusesEach limits input (BadEnvelope number) = ⊥
RefusesEach limits input TooManyNames = RefusesEachTables limits input TooManyNames
RefusesEach limits input TooManyOwners = RefusesEachTables limits input TooManyOwners
RefusesEach limits input TooManyPairs = ⊥
RefusesEach limits input Write = ⊤
RefusesEach limits input Memory = ⊤

-- the faults of bytes that are within the limit and read whole
abbrev pub RefusesEachBytes : Limits → List ℕ → RunFault → Type 0
RefusesEachBytes limits input Read = ⊥
RefusesEachBytes limits input TooLong = ⊥
RefusesEachBytes limits input Write = ⊥
RefusesEachBytes limits input (BadJob number) = RefusesEach limits input (BadJob number)
RefusesEachBytes limits input (BadSetting number) = RefusesEach limits input (BadSetting number)
RefusesEachBytes limits input (BadEnvelope number) = ⊥
RefusesEachBytes limits input TooManyNames = RefusesEach limits input TooManyNames
RefusesEachBytes limits input TooManyOwners = RefusesEach limits input TooManyOwners
RefusesEachBytes limits input TooManyPairs = ⊥
RefusesEachBytes limits input Memory = ⊤
