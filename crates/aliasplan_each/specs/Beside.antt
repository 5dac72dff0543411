-- What becomes of envelopes that come beside the tables.
use Rattle.std.specs.Prelude.{◌≡◌, ◌≤◌, ◌-◌, ◌^◌, ℕ, List, [], ◌++◌, length, take, Option, ⊤}
use Rattle.std.specs.Io.KnownBytes.{Appends}
use Rattle.relay_job.specs.declared.job.Job.{Job}
use Rattle.relay_job.specs.declared.fault.RunFault.{RunFault}
use Rattle.relay_job.specs.declared.fault.RunFault.TheVariants.{Read, TooLong, BadJob, BadSetting, BadEnvelope, TooManyNames, TooManyOwners, TooManyPairs, Write, Memory}
use Rattle.relay_envelopes.specs.Sections.{Section}
use Rattle.aliasplan_each.specs.declared.wording.Wording.{Wording}
use Rattle.relay_planning.specs.declared.options.Limits.{Limits}
use Rattle.aliasplan.specs.Checks.{AreLines}
use Rattle.aliasplan.specs.Outcomes.{AreTableCountsWithin, HasRefusedTables}
use Rattle.relay_planning.specs.Report.{texts, IsLineOf}
use Rattle.aliasplan_each.specs.declared.summary.EachSummary.{EachSummary}
use Rattle.aliasplan_each.specs.Forms.{tables_text_in}
use Rattle.aliasplan_each.specs.Blocks.{Block, texts_of, AreBlocks}
use Rattle.aliasplan_each.specs.Runs.{IsEachAnswer}
use Rattle.aliasplan_each.specs.Asks.{sections_in}

-- The envelopes' answer by these tables is written.
pub record PlansBeside (limits : Limits) (wording : Wording) (tables : Job) (input : List ℕ) (old new : Option (List ℕ)) (summary : EachSummary) : Type 0 where
  pub few : AreTableCountsWithin limits tables
  pub text : List ℕ
  pub due : IsEachAnswer limits wording tables (sections_in limits.bytes input) text summary
  pub written : Appends old new text

-- A run that refuses because of the tables, or because there are more bytes than 64 bits can count. No other text of envelopes is refused.
abbrev pub RefusesBeside : Limits → Job → List ℕ → RunFault → Type 0
RefusesBeside limits tables input Read = ⊤
RefusesBeside limits tables input TooLong = 2 ^ 64 - 1 ≤ length input
RefusesBeside limits tables input (BadJob number) = ⊥
RefusesBeside limits tables input (BadSetting number) = ⊥
RefusesBeside limits tables input (BadEnvelope number) = ⊥
RefusesBeside limits tables input TooManyNames = HasRefusedTables limits tables TooManyNames
RefusesBeside limits tables input TooManyOwners = HasRefusedTables limits tables TooManyOwners
RefusesBeside limits tables input TooManyPairs = ⊥
RefusesBeside limits tables input Write = ⊤
RefusesBeside limits tables input Memory = ⊤

-- Some first sections have come, and have these blocks.
pub record HaveCome (limits : Limits) (wording : Wording) (tables : Job) (sections came : List Section) (blocks : List Block) : Type 0 where
  pub rest : List Section
  pub parts : sections ≡ came ++ rest
  pub are_blocks : AreBlocks limits wording tables came blocks

-- The answer as far as it goes when some envelopes have come: without the last line.
pub record IsAnswerSoFar (limits : Limits) (wording : Wording) (tables : Job) (sections : List Section) (text : List ℕ) : Type 0 where
  pub findings : List (List ℕ)
  pub are_findings : AreLines (IsLineOf tables texts) findings
  pub came : List Section
  pub blocks : List Block
  pub have_come : HaveCome limits wording tables sections came blocks
  pub is : text ≡ tables_text_in wording.form findings ++ texts_of blocks

-- What a run had to write until it stopped: nothing yet, the answer to some first envelopes, or all of it.
pub data IsDue (limits : Limits) (wording : Wording) (tables : Job) (sections : List Section) (text : List ℕ) : Type 0 where
  nothing : text ≡ [] → IsDue limits wording tables sections text
  some : IsAnswerSoFar limits wording tables sections text → IsDue limits wording tables sections text
  whole : (summary : EachSummary) → IsEachAnswer limits wording tables sections text summary → IsDue limits wording tables sections text

-- A front of this is written.
pub record WritesBesideFront (limits : Limits) (wording : Wording) (tables : Job) (input : List ℕ) (old new : Option (List ℕ)) : Type 0 where
  pub text : List ℕ
  pub due : IsDue limits wording tables (sections_in limits.bytes input) text
  pub count : ℕ
  pub written : Appends old new (take count text)
