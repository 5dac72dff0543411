-- What becomes of files and tables whose faults are told by their lines.
use Rattle.std.specs.Prelude.{◌≡◌, ℕ, Bool, true, false, List, Option, Ok, Err, ◌⊎◌, ⊤}
use Rattle.std.specs.Io.KnownBytes.{Appends}
use Rattle.relay_job.specs.declared.job.Job.{Job}
use Rattle.relay_job.specs.declared.fault.RunFault.{RunFault}
use Rattle.relay_job.specs.declared.fault.RunFault.TheVariants.{Write, Memory}
use Rattle.relay_job.specs.Tables.{tables_of}
use Rattle.relay_gather.specs.declared.origins.Origins.{Origins}
use Rattle.relay_planning.specs.declared.options.Limits.{Limits}
use Rattle.relay_planning.specs.Limits.{IsRefused, IsWithin}
use Rattle.relay_planning.specs.Report.{texts, IsFindingLine, IsLineOf}
use Rattle.aliasplan.specs.Checks.{to_each_alias, AreLines, notes_of}
use Rattle.aliasplan_lint.specs.declared.options.LintOptions.{LintOptions}
use Rattle.aliasplan_lint.specs.declared.options.LintCounts.{LintCounts}
use Rattle.aliasplan_lint.specs.declared.linting.LintText.{LintText}
use Rattle.aliasplan_lint.specs.Tells.{Tells}

-- the findings: those of lines alone, or with them what a message of the null sender to every alias comes to
abbrev pub AreFindings : Limits → Bool → Job → List (List ℕ) → Type 0
AreFindings limits true tables lines = IsWithin limits (to_each_alias tables) × AreLines (IsFindingLine (to_each_alias tables)) lines
AreFindings limits false tables lines = AreLines (IsLineOf tables texts) lines

-- what becomes of the text of a job
pub record IsLinted (limits : Limits) (options : LintOptions) (origins : Option Origins) (input : List ℕ) (told : LintText) : Type 0 where
  pub tables : Job
  pub read : tables_of input ≡ Ok tables
  pub findings : List (List ℕ)
  pub found : AreFindings limits options.aliases tables findings
  pub tells : Tells options origins findings (notes_of tables.settings) told

-- that text is written
pub record WritesLint (limits : Limits) (options : LintOptions) (origins : Option Origins) (input : List ℕ) (old new : Option (List ℕ)) (counts : LintCounts) : Type 0 where
  pub told : LintText
  pub due : IsLinted limits options origins input told
  pub counted : counts ≡ told.counts
  pub written : Appends old new told.text

-- Why nothing is told: the text is no files and tables, or what every alias leads to is over a limit. Memory may run out at any moment.
abbrev pub IsUntold : Limits → List ℕ → RunFault → Type 0
IsUntold limits input fault = (tables_of input ≡ Err fault) ⊎ ((tables : Job) × (tables_of input ≡ Ok tables) × IsRefused limits (to_each_alias tables) fault)

abbrev pub RefusesLint : Limits → List ℕ → RunFault → Type 0
RefusesLint limits input Memory = ⊤
RefusesLint limits input Write = ⊥
RefusesLint limits input fault = IsUntold limits input fault
