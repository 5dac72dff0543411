-- The job that tables and an envelope's section are as one text.
use Rattle.std.proofs.Common.{◌≡◌, ℕ, ◌+◌, Bool, true, false, cond, ◌||◌, List, [], ◌∷◌, ◌++◌, length, map, codes, Option, Some, None, Ok, Err, refl, sym, ap, ◌∙◌}
use Rattle.std.specs.List.{list_any, slice_get, filter_map}
use Rattle.std.specs.Option.{option_map}
use Rattle.std.specs.Str.{bytes_eq}
use Rattle.std.proofs.lemmas.List.{append-nil}
use Rattle.std.proofs.lemmas.List.Folds.{list_any-append}
use Rattle.relay_text.specs.Lines.{raw_lines, Cut}
use Rattle.relay_text.specs.declared.lines.Line.{Line}
use Rattle.relay_job.specs.declared.envelope.Envelope.{Envelope}
use Rattle.relay_job.specs.declared.job.Job.{Job}
use Rattle.relay_job.specs.declared.job.JobInclude.{JobInclude}
use Rattle.relay_job.specs.declared.fault.RunFault.TheVariants.{BadSetting, BadEnvelope}
use Rattle.relay_job.specs.JobText.{JobLine, named, Part, job_lines, is_heading, has_section, breaks_job, part_at, part_lines, parts_of, included, section_bytes, sections_of, settings_part, envelope_part, envelope_lines, heading_number, bad_job, bad_setting, job_of}
use Rattle.relay_job.specs.JobParts.{lines_of, commands_of, first_bad_command}
use Rattle.relay_job.specs.Tables.{without_envelope, tables_of}
use Rattle.relay_job.specs.Envelopes.{envelope_commands, envelope_by, envelope_of, with_envelope, joined_text, EndsWithLine, HasNoEnvelope, HasNoHeading}
use Rattle.relay_job.proofs.SectionFacts.{content_before, or_later, part_in, part_at-is, includes_in, includes_of-are, broken_after}
use Rattle.relay_job.proofs.PathFacts.{no_numbers}
use Rattle.relay_job.proofs.ParseFacts.{bytes_in, section_bytes-is, job-bad_envelope, job-read}
use Rattle.relay_job.proofs.TablesFacts.{tables_are-sections, unbroken_tables, tables-bad_setting}
use Rattle.relay_job.proofs.EnvelopeTextFacts.{envelope-unbroken, envelope_is, envelope-broken}
use Rattle.relay_job.proofs.JoinedLines.{heading_behind, lines_behind, joined_lines, renumbered-headings, cut_before-plain, part_in-plain, includes_in-plain, broken_after-plain, part_in-append, includes_in-append, each_after-append, has_section-none}
use Rattle.relay_job.proofs.ShiftedLines.{shifted, lines_of-shifted, commands_of-shifted, sender_of-shifted, recipients_of-shifted, first_bad-shifted}

later-none : (o : Option Part) → or_later o None ≡ o
later-none None = refl
later-none (Some p) = refl

or_true : (b : Bool) → (b || true) ≡ true
or_true true = refl
or_true false = refl

-- the part of an envelope
abbrev envelope_from : ℕ → List JobLine → Part
envelope_from number lines = record { section = named (codes "%envelope"); number = number; lines = lines }

abbrev if_envelope : List ℕ → Part → Option Part
if_envelope word part = cond (bytes_eq word (codes "%envelope")) (Some part) None

module _ (front section : List ℕ) (ended : EndsWithLine front) (absent : HasNoEnvelope front) (plain : HasNoHeading section) where
  lines-plain : list_any is_heading (lines_behind front section) ≡ false
  lines-plain = renumbered-headings (length (raw_lines front) + 1 + 1) 1 (raw_lines section) ∙ plain

  part-heading : (word : List ℕ) → part_in (named word) (heading_behind front ∷ lines_behind front section) ≡ if_envelope word (envelope_from (length (raw_lines front) + 1) (lines_behind front section))
  part-heading word =
      ap (λ (o : Option Part). or_later (if_envelope word (envelope_from (length (raw_lines front) + 1) (content_before (lines_behind front section)))) o) (part_in-plain (named word) (lines_behind front section) lines-plain)
      ∙ later-none (if_envelope word (envelope_from (length (raw_lines front) + 1) (content_before (lines_behind front section))))
      ∙ ap (λ (c : Cut JobLine). if_envelope word (envelope_from (length (raw_lines front) + 1) c.before)) (cut_before-plain (lines_behind front section) lines-plain)

  -- the section's part, and the others as they were
  part-joined : (word : List ℕ) → part_at (joined_text front section) (named word) ≡ or_later (part_at front (named word)) (if_envelope word (envelope_from (length (raw_lines front) + 1) (lines_behind front section)))
  part-joined word =
      part_at-is (joined_text front section) (named word)
      ∙ ap (part_in (named word)) (joined_lines front section ended)
      ∙ part_in-append (heading_behind front) (lines_behind front section) refl (named word) (job_lines front)
      ∙ ap (or_later (part_in (named word) (job_lines front))) (part-heading word)
      ∙ ap (λ (o : Option Part). or_later o (if_envelope word (envelope_from (length (raw_lines front) + 1) (lines_behind front section)))) (sym (part_at-is front (named word)))

  joined-envelope : envelope_part (joined_text front section) ≡ Some (envelope_from (length (raw_lines front) + 1) (lines_behind front section))
  joined-envelope = part-joined (codes "%envelope") ∙ ap (λ (o : Option Part). or_later o (Some (envelope_from (length (raw_lines front) + 1) (lines_behind front section)))) absent

  joined-other : (word : List ℕ) → bytes_eq word (codes "%envelope") ≡ false → part_at (joined_text front section) (named word) ≡ part_at front (named word)
  joined-other word e = part-joined word
      ∙ ap (λ b. or_later (part_at front (named word)) (cond b (Some (envelope_from (length (raw_lines front) + 1) (lines_behind front section))) None)) e
      ∙ later-none (part_at front (named word))

  pub joined-settings : settings_part (joined_text front section) ≡ settings_part front
  joined-settings = ap part_lines (joined-other (codes "%settings") refl)

  pub joined-bytes : (word : List ℕ) → bytes_eq word (codes "%envelope") ≡ false → section_bytes front word ≡ section_bytes (joined_text front section) word
  joined-bytes word e = section_bytes-is front word ∙ ap bytes_in (sym (joined-other word e)) ∙ sym (section_bytes-is (joined_text front section) word)

  pub joined-includes : filter_map included (parts_of (joined_text front section)) ≡ filter_map included (parts_of front)
  joined-includes =
      includes_of-are (joined_text front section)
      ∙ ap includes_in (joined_lines front section ended)
      ∙ includes_in-append (heading_behind front) (lines_behind front section) refl (job_lines front)
      ∙ ap (λ (files : List JobInclude). includes_in (job_lines front) ++ files) (includes_in-plain (lines_behind front section) lines-plain)
      ∙ append-nil (includes_in (job_lines front))
      ∙ sym (includes_of-are front)

  -- the heading is new
  fresh : has_section (job_lines front) (named (codes "%envelope")) ≡ false
  fresh = has_section-none (named (codes "%envelope")) (job_lines front) (sym (part_at-is front (named (codes "%envelope"))) ∙ absent)

  heading-unbroken : broken_after (job_lines front) (heading_behind front ∷ lines_behind front section) ≡ broken_after (job_lines front ++ heading_behind front ∷ []) (lines_behind front section)
  heading-unbroken = ap (λ b. cond b ((length (raw_lines front) + 1) ∷ []) [] ++ broken_after (job_lines front ++ heading_behind front ∷ []) (lines_behind front section)) fresh

  pub joined-unbroken : bad_job front ≡ None → bad_job (joined_text front section) ≡ None
  joined-unbroken good = ap (λ (ns : List ℕ). slice_get ns 0) (
      ap (broken_after []) (joined_lines front section ended)
      ∙ each_after-append (λ earlier x. cond (breaks_job earlier x) (x.number ∷ []) []) [] (job_lines front) (heading_behind front ∷ lines_behind front section)
      ∙ ap (λ (ns : List ℕ). ns ++ broken_after (job_lines front) (heading_behind front ∷ lines_behind front section)) (no_numbers (broken_after [] (job_lines front)) good)
      ∙ heading-unbroken
      ∙ broken_after-plain (job_lines front ++ heading_behind front ∷ []) (lines_behind front section) (list_any-append is_heading (job_lines front) (heading_behind front ∷ []) ∙ or_true (list_any is_heading (job_lines front))) lines-plain)

  -- the heading's number, and the commands behind it
  pub joined-heading : heading_number (envelope_part (joined_text front section)) ≡ length (raw_lines front) + 1
  joined-heading = ap heading_number joined-envelope

  pub joined-commands : envelope_lines (envelope_part (joined_text front section)) ≡ map (shifted (length (raw_lines front) + 1)) (envelope_commands section)
  joined-commands =
      ap envelope_lines joined-envelope
      ∙ ap commands_of (lines_of-shifted (length (raw_lines front) + 1) 1 (length (raw_lines front) + 1 + 1) (raw_lines section) refl)
      ∙ commands_of-shifted (length (raw_lines front) + 1) (lines_of (job_lines section))
      ∙ ap (λ (c : Cut JobLine). map (shifted (length (raw_lines front) + 1)) (commands_of (lines_of c.before))) (sym (cut_before-plain (job_lines section) plain))

unbroken_settings : (text : List ℕ) (tables : Job) → tables_of text ≡ Ok tables → bad_setting text ≡ None
unbroken_settings text tables h = at (bad_setting text) refl where
  at : (o : Option ℕ) → bad_setting text ≡ o → o ≡ None
  at None e = refl
  at (Some n) e = let refused : tables_of text ≡ Err (BadSetting n) = tables-bad_setting text (BadSetting n) (settings_part text) (unbroken_tables text tables h) refl (ap (option_map BadSetting) e) in absurd (let no : ⊥ = cc in no)

pub joined-ok : (front section : List ℕ) (tables : Job) (envelope : Envelope) → EndsWithLine front → HasNoEnvelope front → HasNoHeading section → tables_of front ≡ Ok tables → envelope_of tables.settings.origin section ≡ Ok envelope → job_of (joined_text front section) ≡ Ok (with_envelope tables envelope)
joined-ok front section tables envelope ended absent plain read says =
    let origin : List ℕ = tables.settings.origin in
    let commands : List Line = envelope_commands section in
    let by : ℕ = length (raw_lines front) + 1 in
    let same : without_envelope (sections_of front) ≡ tables = tables_are-sections front tables read in
    let unbroken : first_bad_command origin by (map (shifted by) commands) ≡ None = first_bad-shifted by origin commands ∙ ap (option_map (λ n. by + n)) (envelope-unbroken origin section envelope says) in
    let made : envelope_by origin commands ≡ envelope = envelope_is origin section envelope says in
    let bytes = joined-bytes front section ended absent plain in
    job-read (joined_text front section) (with_envelope tables envelope) (settings_part front) by (map (shifted by) commands)
    (joined-unbroken front section ended absent plain (unbroken_tables front tables read))
    (joined-settings front section ended absent plain)
    (unbroken_settings front tables read)
    (sym (ap (λ (j : Job). j.settings) same))
    (joined-heading front section ended absent plain)
    (joined-commands front section ended absent plain)
    unbroken
    (record {
      aliases = sym (ap (λ (j : Job). j.aliases) same) ∙ bytes (codes "%aliases") refl;
      includes = sym (ap (λ (j : Job). j.includes) same) ∙ sym (joined-includes front section ended absent plain);
      mailboxes = sym (ap (λ (j : Job). j.mailboxes) same) ∙ bytes (codes "%mailboxes") refl;
      transport = sym (ap (λ (j : Job). j.transport) same) ∙ bytes (codes "%transport") refl;
      mx = sym (ap (λ (j : Job). j.mx) same) ∙ bytes (codes "%mx") refl;
    })
    (sym (ap (λ (e : Envelope). e.sender) made) ∙ sym (sender_of-shifted by origin commands))
    (sym (ap (λ (e : Envelope). e.recipients) made) ∙ sym (recipients_of-shifted by origin commands))

pub joined-refused : (front section : List ℕ) (tables : Job) (line : ℕ) → EndsWithLine front → HasNoEnvelope front → HasNoHeading section → tables_of front ≡ Ok tables → envelope_of tables.settings.origin section ≡ Err (BadEnvelope line) → job_of (joined_text front section) ≡ Err (BadEnvelope (length (raw_lines front) + 1 + line))
joined-refused front section tables line ended absent plain read bad =
    let origin : List ℕ = tables.settings.origin in
    let commands : List Line = envelope_commands section in
    let by : ℕ = length (raw_lines front) + 1 in
    let same : without_envelope (sections_of front) ≡ tables = tables_are-sections front tables read in
    let broken : first_bad_command origin by (map (shifted by) commands) ≡ Some (by + line) = first_bad-shifted by origin commands ∙ ap (option_map (λ n. by + n)) (envelope-broken origin section line bad) in
    job-bad_envelope (joined_text front section) (BadEnvelope (by + line)) (settings_part front) by (map (shifted by) commands) origin
    (joined-unbroken front section ended absent plain (unbroken_tables front tables read))
    (joined-settings front section ended absent plain)
    (unbroken_settings front tables read)
    (sym (ap (λ (j : Job). j.settings.origin) same))
    (joined-heading front section ended absent plain)
    (joined-commands front section ended absent plain)
    (ap (option_map BadEnvelope) broken)
