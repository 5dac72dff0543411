-- How a run's answer and its refusals follow from their parts.
use Rattle.std.proofs.Common.{◌≡◌, ℕ, ◌≤◌, List, [], ◌++◌, length, Option, Some, None, Ok, refl, ap, ◌∙◌, subst}
use Rattle.std.specs.List.{fold}
use Rattle.relay_job.specs.declared.job.Job.{Job}
use Rattle.relay_job.specs.declared.fault.RunFault.{RunFault}
use Rattle.relay_job.specs.declared.fault.RunFault.TheVariants.{Read, TooLong, BadJob, BadSetting, BadEnvelope, TooManyNames, TooManyOwners, TooManyPairs, Write, Memory}
use Rattle.relay_job.specs.JobAnswers.{Fails}
use Rattle.relay_job.specs.JobText.{job_unless, sections_of}
use Rattle.relay_job.specs.Tables.{without_envelope}
use Rattle.relay_envelopes.specs.declared.counts.EnvelopeCounts.{EnvelopeCounts}
use Rattle.relay_envelopes.specs.Sections.{Section, front_of, each_fault, each_tables_of}
use Rattle.aliasplan_each.specs.declared.wording.Wording.{Wording}
use Rattle.relay_planning.specs.declared.options.Limits.{Limits}
use Rattle.aliasplan.specs.Outcomes.{AreTableCountsWithin, HasRefusedTables}
use Rattle.aliasplan_each.specs.declared.summary.EachSummary.{EachSummary}
use Rattle.aliasplan_each.specs.Forms.{tables_text_in, done_text_in}
use Rattle.aliasplan_each.specs.Blocks.{no_counts, texts_of, counts_of, GrowsByAll}
use Rattle.aliasplan_each.specs.Runs.{BeginsEach, IsEachAnswer, IsEachText, AreEachParts, RefusesEachBytes}
use Rattle.aliasplan_each.proofs.BlockFacts.{with_block}
use Rattle.aliasplan_each.proofs.PartFacts.{fault_of_each}

-- tables come without an envelope
alone-by : (fault : Option RunFault) (job tables : Job) → job_unless fault (without_envelope job) ≡ Ok tables → without_envelope tables ≡ tables
alone-by None job tables h = let same : without_envelope job ≡ tables = cc in subst (λ (read : Job). without_envelope read ≡ read) same refl
alone-by (Some fault) job tables h = absurd (let no : ⊥ = cc in no)

pub tables_alone : (text : List ℕ) (tables : Job) → each_tables_of text ≡ Ok tables → without_envelope tables ≡ tables
unfolding each_tables_of
tables_alone text tables h = alone-by (each_fault text) (sections_of (front_of text)) tables h

-- The lines of files and tables, the blocks, and the last line are the answer.
pub answer_is : (limits : Limits) (wording : Wording) (tables : Job) (sections : List Section) (none begun grown text : List ℕ) (count : ℕ) (before after : EnvelopeCounts)
    → none ≡ [] → before ≡ no_counts → BeginsEach wording.form tables none begun count → GrowsByAll limits wording tables sections begun grown before after → text ≡ grown ++ done_text_in wording.form after
    → IsEachAnswer limits wording tables sections text (record { findings = count; counts = after })
answer_is limits wording tables sections none begun grown text count before after empty uncounted b g ended =
    let counted : after ≡ counts_of g.blocks = g.counted ∙ ap (λ (c : EnvelopeCounts). fold with_block c g.blocks) uncounted in
    let lines : begun ≡ tables_text_in wording.form b.findings = b.written ∙ ap (λ (t : List ℕ). t ++ tables_text_in wording.form b.findings) empty in
    let summary : ℕ → EnvelopeCounts → EachSummary = λ n c. record { findings = n; counts = c } in
    record {
      findings = b.findings;
      are_findings = b.are_findings;
      blocks = g.blocks;
      are_blocks = g.are_blocks;
      written =
          ended
          ∙ ap (λ (t : List ℕ). t ++ done_text_in wording.form after) (g.written ∙ ap (λ (t : List ℕ). t ++ texts_of g.blocks) lines)
          ∙ ap (λ (c : EnvelopeCounts). (tables_text_in wording.form b.findings ++ texts_of g.blocks) ++ done_text_in wording.form c) counted;
      summed = ap (λ (n : ℕ). summary n after) b.counted ∙ ap (summary (length b.findings)) counted;
    }

module _ (limits : Limits) (text : List ℕ) (size : length text ≤ limits.bytes) where
  -- a text that has a fault
  pub refuses_each : (fault : RunFault) → Fails fault (each_tables_of text) → RefusesEachBytes limits text fault
  refuses_each (BadJob number) h = record { size = size; read = h }
  refuses_each (BadSetting number) h = record { size = size; read = h }
  refuses_each Memory h = tt
  refuses_each (BadEnvelope number) h = absurd (fault_of_each text (BadEnvelope number) h)
  refuses_each Read h = absurd (fault_of_each text Read h)
  refuses_each TooLong h = absurd (fault_of_each text TooLong h)
  refuses_each TooManyNames h = absurd (fault_of_each text TooManyNames h)
  refuses_each TooManyOwners h = absurd (fault_of_each text TooManyOwners h)
  refuses_each TooManyPairs h = absurd (fault_of_each text TooManyPairs h)
  refuses_each Write h = absurd (fault_of_each text Write h)

  -- tables that are refused
  pub refuses_tables : (tables : Job) → each_tables_of text ≡ Ok tables → (fault : RunFault) → HasRefusedTables limits tables fault → RefusesEachBytes limits text fault
  refuses_tables tables is TooManyNames h = record { size = size; tables = tables; read = is; refused = h }
  refuses_tables tables is TooManyOwners h = record { size = size; tables = tables; read = is; refused = h }
  refuses_tables tables is Memory h = tt
  refuses_tables tables is TooManyPairs h = absurd h
  refuses_tables tables is Read h = absurd h
  refuses_tables tables is TooLong h = absurd h
  refuses_tables tables is (BadJob number) h = absurd h
  refuses_tables tables is (BadSetting number) h = absurd h
  refuses_tables tables is (BadEnvelope number) h = absurd h
  refuses_tables tables is Write h = absurd h

  -- the answer of a planner of the text's tables
  pub text_is : (wording : Wording) (tables planner : Job) (sections : List Section) (answer : List ℕ) (summary : EachSummary)
      → AreEachParts text tables sections → planner ≡ without_envelope tables → AreTableCountsWithin limits tables → IsEachAnswer limits wording planner sections answer summary → IsEachText limits wording text answer summary
  text_is wording tables planner sections answer summary parts is few answered = record {
    size = size;
    tables = tables;
    read = parts.read;
    few = few;
    answered = subst (λ (found : List Section). IsEachAnswer limits wording tables found answer summary) parts.sections_are (subst (λ (job : Job). IsEachAnswer limits wording job sections answer summary) (is ∙ tables_alone text tables parts.read) answered);
  }
