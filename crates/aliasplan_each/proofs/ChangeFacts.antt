-- Why tables that are read anew are refused.
use Rattle.std.proofs.Common.{◌≡◌, ℕ, ◌≤◌, List, length, Option, Ok, refl, ◌∙◌}
use Rattle.std.specs.Io.KnownBytes.{Appends}
use Rattle.std.proofs.KnownBytes.{Appends-nil}
use Rattle.relay_job.specs.declared.job.Job.{Job}
use Rattle.relay_job.specs.declared.fault.RunFault.{RunFault}
use Rattle.relay_job.specs.declared.fault.RunFault.TheVariants.{Read, TooLong, BadJob, BadSetting, BadEnvelope, TooManyNames, TooManyOwners, TooManyPairs, Write, Memory}
use Rattle.relay_job.specs.JobAnswers.{Fails}
use Rattle.relay_job.specs.Tables.{without_envelope, tables_of}
use Rattle.relay_planning.specs.declared.options.Form.{Form}
use Rattle.relay_planning.specs.declared.options.Limits.{Limits}
use Rattle.aliasplan.specs.Outcomes.{AreTableCountsWithin}
use Rattle.aliasplan.specs.Transfers.{Fronts}
use Rattle.aliasplan_each.specs.Given.{Given, GivesText}
use Rattle.aliasplan_each.specs.Changes.{taken_text_in, kept_text_in, IsKept, IsChange}
use Rattle.aliasplan_each.specs.Changes.IsChange.{kept}
use Rattle.aliasplan_each.specs.Changes.IsKept.{broken, memory}
use Rattle.aliasplan_each.specs.ChangeSteps.{HasRead, WritesChange, FrontsChange}
use Rattle.aliasplan_each.proofs.BesideRuns.{without-is}

module _ (limits : Limits) (given : Given) (bytes : List ℕ) (gives : GivesText given bytes) (size : length bytes ≤ limits.bytes) where
  -- a text that has a fault, unless memory ran out
  pub kept-broken : (fault : RunFault) → Fails fault (tables_of bytes) → IsKept limits given fault
  kept-broken Memory h = memory refl
  kept-broken Read h = broken bytes gives size h
  kept-broken TooLong h = broken bytes gives size h
  kept-broken (BadJob number) h = broken bytes gives size h
  kept-broken (BadSetting number) h = broken bytes gives size h
  kept-broken (BadEnvelope number) h = broken bytes gives size h
  kept-broken TooManyNames h = broken bytes gives size h
  kept-broken TooManyOwners h = broken bytes gives size h
  kept-broken TooManyPairs h = broken bytes gives size h
  kept-broken Write h = broken bytes gives size h

module _ (limits : Limits) (form : Form) (given : Given) where
  -- a planner of good tables is one of the tables that the text has
  pub HasRead-of : (bytes answer : List ℕ) (tables planner : Job) → GivesText given bytes → length bytes ≤ limits.bytes → tables_of bytes ≡ Ok tables → AreTableCountsWithin limits tables → planner ≡ without_envelope tables → answer ≡ taken_text_in form bytes → HasRead limits form given planner answer
  HasRead-of bytes answer tables planner gives size read few is written =
      let same : planner ≡ tables = is ∙ without-is limits.bytes tables (bytes, size, read) in
      record { bytes = bytes; is = record { gives = gives; size = size; read = rw same read; few = rw same few }; answer_is = written }

  pub WritesChange-of : (tables after : Job) (text : List ℕ) (old new : Option (List ℕ)) → IsChange limits form given tables text after → Appends old new text → WritesChange limits form given tables after old new
  WritesChange-of tables after text old new is w = record { text = text; is = is; written = w }

  pub FrontsChange-of : (tables after : Job) (text : List ℕ) (old new : Option (List ℕ)) → IsChange limits form given tables text after → Fronts old new text → FrontsChange limits form given tables old new
  FrontsChange-of tables after text old new is w = record { text = text; after = after; is = is; count = w.count; written = w.written }

  pub FrontsChange-none : (tables : Job) (old : Option (List ℕ)) → FrontsChange limits form given tables old old
  FrontsChange-none tables old = record { text = kept_text_in form Memory; after = tables; is = kept Memory (memory refl) refl refl; count = 0; written = Appends-nil old }
