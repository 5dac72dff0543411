-- How a job follows from its sections.
use Rattle.std.proofs.Common.{◌≡◌, ℕ, List, [], ◌∷◌, codes, drop, Option, Some, None, Result, Ok, Err, refl, sym, ap, ◌∙◌}
use Rattle.std.specs.List.{filter_map, flat_map}
use Rattle.std.specs.Option.{option_map}
use Rattle.relay_text.specs.Bytes.{first_of}
use Rattle.relay_text.specs.declared.lines.Line.{Line}
use Rattle.relay_job.specs.declared.place.Place.{Place}
use Rattle.relay_job.specs.declared.section.Section.{Section}
use Rattle.relay_job.specs.declared.section.Section.TheVariants.{Settings, Aliases, Mailboxes, Transport, Mx, Envelope}
use Rattle.relay_job.specs.declared.parts.Parts.{Parts}
use Rattle.relay_job.specs.declared.envelope.Envelope as envelopes
use Rattle.relay_job.specs.declared.job.Job.{Job}
use Rattle.relay_job.specs.declared.job_files.JobFiles.{JobFiles}
use Rattle.relay_job.specs.declared.settings.Settings as values
use Rattle.relay_job.specs.declared.fault.RunFault.{RunFault}
use Rattle.relay_job.specs.declared.fault.RunFault.TheVariants.{Read, TooLong, BadJob, BadSetting, BadEnvelope, TooManyNames, TooManyOwners, TooManyPairs, Write, Memory}
use Rattle.relay_job.specs.JobAnswers.{Fails}
use Rattle.relay_job.specs.Settings.{settings_of}
use Rattle.relay_job.specs.JobText.{JobLine, content_of, named, Part, part_at, parts_of, included, part_lines, part_bytes, section_bytes, settings_part, envelope_part, envelope_lines, heading_number, bad_job, bad_setting, bad_envelope, job_settings, job_fault, sections_of, job_of}
use Rattle.relay_job.specs.Jobs.{AreFilesOf, IsJobOf}
use Rattle.relay_job.specs.Places.{content_at}
use Rattle.relay_job.specs.SectionPlaces.{word_of, place_of, part_behind, content_behind, line_behind, ArePartsOf, setting_lines_of, HasSettings}
use Rattle.relay_job.specs.JobParts.{lines_of, commands_of, commands_at, first_bad_setting, first_bad_command, bad_envelope_at, sender_of, recipients_of, IsEnvelopeAt, Stops}

pub Fails-from_stop : {A : Type 0} (o : Option RunFault) (fault : RunFault) (given : Result A RunFault) → ((f : RunFault) → o ≡ Some f → given ≡ Err f) → Stops o fault → Fails fault given
Fails-from_stop o Read given h s = h _ s
Fails-from_stop o TooLong given h s = h _ s
Fails-from_stop o (BadJob n) given h s = h _ s
Fails-from_stop o (BadSetting n) given h s = h _ s
Fails-from_stop o (BadEnvelope n) given h s = h _ s
Fails-from_stop o TooManyNames given h s = h _ s
Fails-from_stop o TooManyOwners given h s = h _ s
Fails-from_stop o TooManyPairs given h s = h _ s
Fails-from_stop o Write given h s = h _ s
Fails-from_stop o Memory given h s = tt

-- The lines, the heading and the bytes of a section, by the place behind its heading.
part_lines-behind : (word : List ℕ) (o : Option Place) → part_lines (option_map (part_behind word) o) ≡ lines_of (content_behind o)
part_lines-behind word None = refl
part_lines-behind word (Some place) = refl

heading_number-behind : (word : List ℕ) (o : Option Place) → heading_number (option_map (part_behind word) o) ≡ line_behind o
heading_number-behind word None = refl
heading_number-behind word (Some place) = refl

abbrev pub bytes_in : Option Part → List ℕ
bytes_in None = []
bytes_in (Some p) = part_bytes p

pub section_bytes-is : (text word : List ℕ) → section_bytes text word ≡ bytes_in (part_at text (named word))
section_bytes-is text word = at (part_at text (named word)) refl where
  at : (o : Option Part) → part_at text (named word) ≡ o → section_bytes text word ≡ bytes_in o
  at None e = rw e
  at (Some p) e = rw e

bytes-behind : (word : List ℕ) (o : Option Place) → bytes_in (option_map (part_behind word) o) ≡ flat_map (λ (l : JobLine). content_of l.raw) (content_behind o)
bytes-behind word None = refl
bytes-behind word (Some place) = refl

module _ (text : List ℕ) (p : Parts) (h : ArePartsOf text p) where
  pub settings_lines : settings_part text ≡ lines_of (content_behind (place_of p.sections Settings))
  settings_lines = ap part_lines (sym (h.places Settings)) ∙ part_lines-behind (word_of Settings) (place_of p.sections Settings)

  pub envelope_commands : envelope_lines (envelope_part text) ≡ commands_of (lines_of (content_behind (place_of p.sections Envelope)))
  envelope_commands = ap commands_of (ap part_lines (sym (h.places Envelope)) ∙ part_lines-behind (word_of Envelope) (place_of p.sections Envelope))

  pub envelope_heading : heading_number (envelope_part text) ≡ line_behind (place_of p.sections Envelope)
  envelope_heading = ap heading_number (sym (h.places Envelope)) ∙ heading_number-behind (word_of Envelope) (place_of p.sections Envelope)

  -- the bytes of a section
  pub bytes_of : (section : Section) → section_bytes text (word_of section) ≡ flat_map (λ (l : JobLine). content_of l.raw) (content_behind (place_of p.sections section))
  bytes_of section = section_bytes-is text (word_of section) ∙ ap bytes_in (sym (h.places section)) ∙ bytes-behind (word_of section) (place_of p.sections section)

pub job-fault : (text : List ℕ) (fault : RunFault) → job_fault text ≡ Some fault → job_of text ≡ Err fault
unfolding job_of
job-fault text fault h = rw h

-- The three faults in their order.
pub first : (a : Option RunFault) (more : List (Option RunFault)) (f : RunFault) → a ≡ Some f → first_of (a ∷ more) ≡ Some f
first a more f e = rw e

pub job-broken : (text : List ℕ) (fault : RunFault) → option_map BadJob (bad_job text) ≡ Some fault → job_of text ≡ Err fault
job-broken text fault h = job-fault text fault (first _ _ fault h)

pub second : (a b : Option RunFault) (more : List (Option RunFault)) (f : RunFault) → a ≡ None → b ≡ Some f → first_of (a ∷ b ∷ more) ≡ Some f
second a b more f e g = rw (e, g)

third : (a b c : Option RunFault) (f : RunFault) → a ≡ None → b ≡ None → c ≡ Some f → first_of (a ∷ b ∷ c ∷ []) ≡ Some f
third a b c f e g k = rw (e, g, k)

none : (a b c : Option RunFault) → a ≡ None → b ≡ None → c ≡ None → first_of (a ∷ b ∷ c ∷ []) ≡ None
none a b c e g k = rw (e, g, k)

pub job-bad_setting : (text : List ℕ) (fault : RunFault) (lines : List Line) → bad_job text ≡ None → settings_part text ≡ lines → option_map BadSetting (first_bad_setting lines) ≡ Some fault → job_of text ≡ Err fault
job-bad_setting text fault lines j e h = job-fault text fault (second _ _ _ fault (ap (option_map BadJob) j) (rw e h))

pub job-bad_envelope : (text : List ℕ) (fault : RunFault) (lines : List Line) (heading : ℕ) (commands : List Line) (origin : List ℕ) → bad_job text ≡ None → settings_part text ≡ lines → first_bad_setting lines ≡ None → origin ≡ (settings_of lines).origin → heading_number (envelope_part text) ≡ heading → envelope_lines (envelope_part text) ≡ commands → option_map BadEnvelope (first_bad_command origin heading commands) ≡ Some fault → job_of text ≡ Err fault
job-bad_envelope text fault lines heading commands origin j e g o n c h =
    let bad : bad_envelope (job_settings text).origin (envelope_part text) ≡ first_bad_command origin heading commands = rw (o, ← e, ← n, ← c) in
    let good : bad_setting text ≡ None = rw e g in
    job-fault text fault (third _ _ _ fault (ap (option_map BadJob) j) (ap (option_map BadSetting) good) (ap (option_map BadEnvelope) bad ∙ h))

pub job-good : (text : List ℕ) → job_fault text ≡ None → job_of text ≡ Ok (sections_of text)
unfolding job_of
job-good text h = rw h

abbrev job_by : List ℕ → values.Settings → List Line → Job
job_by text settings commands = record {
  settings = settings;
  aliases = section_bytes text (codes "%aliases");
  includes = filter_map included (parts_of text);
  mailboxes = section_bytes text (codes "%mailboxes");
  transport = section_bytes text (codes "%transport");
  mx = section_bytes text (codes "%mx");
  sender = sender_of settings.origin commands;
  recipients = recipients_of settings.origin (drop 1 commands);
}

sections_of-by : (text : List ℕ) → sections_of text ≡ job_by text (job_settings text) (envelope_lines (envelope_part text))
sections_of-by text = refl

-- the bytes of a job's sections are those of a text
pub record HasSections (text : List ℕ) (job : Job) : Type 0 where
  pub aliases : job.aliases ≡ section_bytes text (codes "%aliases")
  pub includes : job.includes ≡ filter_map included (parts_of text)
  pub mailboxes : job.mailboxes ≡ section_bytes text (codes "%mailboxes")
  pub transport : job.transport ≡ section_bytes text (codes "%transport")
  pub mx : job.mx ≡ section_bytes text (codes "%mx")

pub job-read : (text : List ℕ) (job : Job) (lines : List Line) (heading : ℕ) (commands : List Line) → bad_job text ≡ None → settings_part text ≡ lines → first_bad_setting lines ≡ None → job.settings ≡ settings_of lines → heading_number (envelope_part text) ≡ heading → envelope_lines (envelope_part text) ≡ commands → first_bad_command job.settings.origin heading commands ≡ None
    → HasSections text job → job.sender ≡ sender_of job.settings.origin commands → job.recipients ≡ recipients_of job.settings.origin (drop 1 commands) → job_of text ≡ Ok job
job-read text job lines heading commands j e g s n c h has from to =
    let settings : job_settings text ≡ job.settings = ap settings_of e ∙ sym s in
    let good : bad_setting text ≡ None = rw e g in
    let here : bad_envelope job.settings.origin (envelope_part text) ≡ first_bad_command job.settings.origin heading commands = rw (← n, ← c) in
    let bad : bad_envelope (job_settings text).origin (envelope_part text) ≡ None = ap (λ (t : values.Settings). bad_envelope t.origin (envelope_part text)) settings ∙ here ∙ h in
    let parts : job_by text job.settings commands ≡ job = rw (← has.aliases, ← has.includes, ← has.mailboxes, ← has.transport, ← has.mx, ← from, ← to) in
    job-good text (none _ _ _ (ap (option_map BadJob) j) (ap (option_map BadSetting) good) (ap (option_map BadEnvelope) bad))
    ∙ ap Ok (sections_of-by text ∙ ap (λ (t : values.Settings). job_by text t (envelope_lines (envelope_part text))) settings ∙ ap (λ (l : List Line). job_by text job.settings l) c ∙ parts)

-- ---- what follows from the parts of a job, and from what was read of them
-- where the envelope's section stands among the parts
pub record HasSectionAt (p : Parts) (section : Place) : Type 0 where
  pub lines : content_at section ≡ content_behind (place_of p.sections Envelope)
  pub heading : section.line ≡ line_behind (place_of p.sections Envelope)

module _ (text : List ℕ) (p : Parts) (h : ArePartsOf text p) where
  pub parts-settings : (fault : RunFault) → Stops (option_map BadSetting (first_bad_setting (setting_lines_of p))) fault → Fails fault (job_of text)
  parts-settings fault s = Fails-from_stop _ fault (job_of text) (λ f g. job-bad_setting text f (setting_lines_of p) h.unbroken (settings_lines text p h) g) s

  pub parts-files : (settings : values.Settings) (files : JobFiles) (envelope : envelopes.Envelope) (job : Job) → AreFilesOf p files → IsJobOf settings files envelope job → HasSections text job
  parts-files settings files envelope job read is = record {
    aliases = is.aliases ∙ read.aliases ∙ sym (bytes_of text p h Aliases);
    includes = is.includes ∙ read.includes ∙ h.includes;
    mailboxes = is.mailboxes ∙ read.mailboxes ∙ sym (bytes_of text p h Mailboxes);
    transport = is.transport ∙ read.transport ∙ sym (bytes_of text p h Transport);
    mx = is.mx ∙ read.mx ∙ sym (bytes_of text p h Mx);
  }

  module _ (settings : values.Settings) (origin : List ℕ) (section : Place) (set : HasSettings p settings) (own : origin ≡ settings.origin) (there : HasSectionAt p section) where
    heading-is : heading_number (envelope_part text) ≡ section.line
    heading-is = envelope_heading text p h ∙ sym there.heading

    commands-are : envelope_lines (envelope_part text) ≡ commands_at section
    commands-are = envelope_commands text p h ∙ ap (λ (lines : List JobLine). commands_of (lines_of lines)) (sym there.lines)

    pub parts-envelope : (fault : RunFault) → Stops (bad_envelope_at origin section) fault → Fails fault (job_of text)
    parts-envelope fault s = Fails-from_stop _ fault (job_of text) (λ f g. job-bad_envelope text f (setting_lines_of p) section.line (commands_at section) origin h.unbroken (settings_lines text p h) set.unbroken (own ∙ ap (λ (t : values.Settings). t.origin) set.are) heading-is commands-are g) s

    pub parts-job : (files : JobFiles) (envelope : envelopes.Envelope) (job : Job) → AreFilesOf p files → IsEnvelopeAt origin section envelope → IsJobOf settings files envelope job → job_of text ≡ Ok job
    parts-job files envelope job read e is =
        let same : origin ≡ job.settings.origin = own ∙ ap (λ (t : values.Settings). t.origin) (sym is.settings) in
        job-read text job (setting_lines_of p) section.line (commands_at section) h.unbroken (settings_lines text p h) set.unbroken (is.settings ∙ set.are) heading-is commands-are
        (ap (λ (o : List ℕ). first_bad_command o section.line (commands_at section)) (sym same) ∙ e.unbroken)
        (parts-files settings files envelope job read is)
        (is.sender ∙ e.sender ∙ ap (λ (o : List ℕ). sender_of o (commands_at section)) same)
        (is.recipients ∙ e.recipients ∙ ap (λ (o : List ℕ). recipients_of o (drop 1 (commands_at section))) same)
