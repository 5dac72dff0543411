-- How the files and tables of a text follow from its sections.
use Rattle.std.proofs.Common.{◌≡◌, ℕ, List, [], ◌∷◌, Option, Some, None, Ok, Err, refl, ap, ◌∙◌}
use Rattle.std.specs.Option.{option_map}
use Rattle.relay_text.specs.Bytes.{first_of}
use Rattle.relay_text.specs.declared.lines.Line.{Line}
use Rattle.relay_job.specs.declared.envelope.Envelope.{Envelope}
use Rattle.relay_job.specs.declared.job.Job.{Job}
use Rattle.relay_job.specs.declared.job_files.JobFiles.{JobFiles}
use Rattle.relay_job.specs.declared.parts.Parts.{Parts}
use Rattle.relay_job.specs.declared.settings.Settings.{Settings}
use Rattle.relay_job.specs.declared.fault.RunFault.{RunFault}
use Rattle.relay_job.specs.declared.fault.RunFault.TheVariants.{BadJob, BadSetting}
use Rattle.relay_job.specs.Settings.{settings_of}
use Rattle.relay_job.specs.JobText.{bad_job, bad_setting, settings_part, sections_of}
use Rattle.relay_job.specs.JobAnswers.{Fails}
use Rattle.relay_job.specs.JobParts.{first_bad_setting, Stops}
use Rattle.relay_job.specs.Jobs.{AreFilesOf, IsJobOf}
use Rattle.relay_job.specs.SectionPlaces.{ArePartsOf, setting_lines_of, HasSettings}
use Rattle.relay_job.specs.Tables.{tables_fault, without_envelope, tables_of}
use Rattle.relay_job.proofs.ParseFacts.{first, second, HasSections, Fails-from_stop, settings_lines, parts-files}

tables-fault : (text : List ℕ) (fault : RunFault) → tables_fault text ≡ Some fault → tables_of text ≡ Err fault
unfolding tables_of
tables-fault text fault h = rw h

-- The two faults in their order.
pub tables-broken : (text : List ℕ) (fault : RunFault) → option_map BadJob (bad_job text) ≡ Some fault → tables_of text ≡ Err fault
tables-broken text fault h = tables-fault text fault (first _ _ fault h)

pub tables-bad_setting : (text : List ℕ) (fault : RunFault) (lines : List Line) → bad_job text ≡ None → settings_part text ≡ lines → option_map BadSetting (first_bad_setting lines) ≡ Some fault → tables_of text ≡ Err fault
tables-bad_setting text fault lines j e h = tables-fault text fault (second _ _ _ fault (ap (option_map BadJob) j) (rw e h))

tables-good : (text : List ℕ) → tables_fault text ≡ None → tables_of text ≡ Ok (without_envelope (sections_of text))
unfolding tables_of
tables-good text h = rw h

neither : (a b : Option RunFault) → a ≡ None → b ≡ None → first_of (a ∷ b ∷ []) ≡ None
neither a b e g = rw (e, g)

pub tables-read : (text : List ℕ) (tables : Job) (lines : List Line) → bad_job text ≡ None → settings_part text ≡ lines → first_bad_setting lines ≡ None → tables.settings ≡ settings_of lines → HasSections text tables → tables.sender ≡ None → tables.recipients ≡ [] → tables_of text ≡ Ok tables
tables-read text tables lines j e g s has from to =
    let good : bad_setting text ≡ None = rw e g in
    let same : without_envelope (sections_of text) ≡ tables = rw (e, ← s, ← has.aliases, ← has.includes, ← has.mailboxes, ← has.transport, ← has.mx, ← from, ← to) in
    tables-good text (neither _ _ (ap (option_map BadJob) j) (ap (option_map BadSetting) good)) ∙ ap Ok same

-- What follows from the parts of a text, and from what was read of them.
module _ (text : List ℕ) (p : Parts) (h : ArePartsOf text p) where
  pub parts-tables_settings : (fault : RunFault) → Stops (option_map BadSetting (first_bad_setting (setting_lines_of p))) fault → Fails fault (tables_of text)
  parts-tables_settings fault s = Fails-from_stop _ fault (tables_of text) (λ f g. tables-bad_setting text f (setting_lines_of p) h.unbroken (settings_lines text p h) g) s

  pub parts-tables : (settings : Settings) (files : JobFiles) (nobody : Envelope) (tables : Job) → HasSettings p settings → AreFilesOf p files → IsJobOf settings files nobody tables → nobody.sender ≡ None → nobody.recipients ≡ [] → tables_of text ≡ Ok tables
  parts-tables settings files nobody tables set read is from to =
      tables-read text tables (setting_lines_of p) h.unbroken (settings_lines text p h) set.unbroken (is.settings ∙ set.are) (parts-files text p h settings files nobody tables read is) (is.sender ∙ from) (is.recipients ∙ to)

-- A text that has files and tables has no fault but in its envelope, and they are its sections.
pub tables_are-sections : (text : List ℕ) (tables : Job) → tables_of text ≡ Ok tables → without_envelope (sections_of text) ≡ tables
tables_are-sections text tables h = at (tables_fault text) refl where
  at : (o : Option RunFault) → tables_fault text ≡ o → without_envelope (sections_of text) ≡ tables
  at None e = let same : tables_of text ≡ Ok (without_envelope (sections_of text)) = tables-good text e in cc
  at (Some fault) e = let other : tables_of text ≡ Err fault = tables-fault text fault e in cc

pub unbroken_tables : (text : List ℕ) (tables : Job) → tables_of text ≡ Ok tables → bad_job text ≡ None
unbroken_tables text tables h = at (bad_job text) refl where
  at : (o : Option ℕ) → bad_job text ≡ o → o ≡ None
  at None e = refl
  at (Some n) e = let refused : tables_of text ≡ Err (BadJob n) = tables-broken text (BadJob n) (ap (option_map BadJob) e) in absurd (let no : ⊥ = cc in no)
