-- What an envelope's section says by itself.
use Rattle.std.proofs.Common.{◌≡◌, ℕ, List, Option, Some, None, Result, Ok, Err, refl, sym, ap, ◌∙◌}
use Rattle.std.specs.Prelude.{IfOk, IfErr}
use Rattle.std.specs.Option.{option_map}
use Rattle.relay_job.specs.declared.envelope.Envelope.{Envelope}
use Rattle.relay_job.specs.declared.place.Place.{Place}
use Rattle.relay_job.specs.declared.fault.RunFault.{RunFault}
use Rattle.relay_job.specs.declared.fault.RunFault.TheVariants.{BadEnvelope}
use Rattle.relay_job.specs.JobAnswers.{Answers}
use Rattle.relay_job.specs.JobParts.{commands_at, first_bad_command, bad_envelope_at, IsEnvelopeAt, Stops}
use Rattle.relay_job.specs.Envelopes.{envelope_commands, envelope_fault, envelope_by, envelope_of}
use Rattle.relay_job.proofs.ParseFacts.{Fails-from_stop}

envelope-fault : (origin text : List ℕ) (fault : RunFault) → envelope_fault origin text ≡ Some fault → envelope_of origin text ≡ Err fault
unfolding envelope_of
envelope-fault origin text fault h = rw h

envelope-good : (origin text : List ℕ) → envelope_fault origin text ≡ None → envelope_of origin text ≡ Ok (envelope_by origin (envelope_commands text))
unfolding envelope_of
envelope-good origin text h = rw h

pub envelope-read : (origin text : List ℕ) (section : Place) (result : Result Envelope RunFault) → section.line ≡ 0 → commands_at section ≡ envelope_commands text
    → IfOk result (IsEnvelopeAt origin section) → IfErr result (Stops (bad_envelope_at origin section)) → Answers result (envelope_of origin text)
envelope-read origin text section result h c = at result where
  same : bad_envelope_at origin section ≡ envelope_fault origin text
  same = ap (option_map BadEnvelope) (ap (λ (n : ℕ). first_bad_command origin n (commands_at section)) h ∙ ap (first_bad_command origin 0) c)

  at : (r : Result Envelope RunFault) → IfOk r (IsEnvelopeAt origin section) → IfErr r (Stops (bad_envelope_at origin section)) → Answers r (envelope_of origin text)
  at (Ok e) good bad =
      let made : envelope_by origin (envelope_commands text) ≡ e = rw (← c, ← good.sender, ← good.recipients) in
      envelope-good origin text (sym same ∙ ap (option_map BadEnvelope) good.unbroken) ∙ ap Ok made
  at (Err fault) good bad = Fails-from_stop _ fault (envelope_of origin text) (λ f g. envelope-fault origin text f (sym same ∙ g)) bad

-- A section that says an envelope has no fault, and its commands make it.
pub envelope-unbroken : (origin text : List ℕ) (envelope : Envelope) → envelope_of origin text ≡ Ok envelope → first_bad_command origin 0 (envelope_commands text) ≡ None
envelope-unbroken origin text envelope h = at (first_bad_command origin 0 (envelope_commands text)) refl where
  at : (o : Option ℕ) → first_bad_command origin 0 (envelope_commands text) ≡ o → o ≡ None
  at None e = refl
  at (Some n) e = let refused : envelope_of origin text ≡ Err (BadEnvelope n) = envelope-fault origin text (BadEnvelope n) (ap (option_map BadEnvelope) e) in absurd (let no : ⊥ = cc in no)

pub envelope_is : (origin text : List ℕ) (envelope : Envelope) → envelope_of origin text ≡ Ok envelope → envelope_by origin (envelope_commands text) ≡ envelope
envelope_is origin text envelope h = let good : envelope_of origin text ≡ Ok (envelope_by origin (envelope_commands text)) = envelope-good origin text (ap (option_map BadEnvelope) (envelope-unbroken origin text envelope h)) in cc

-- The line of its fault is that of its first bad command.
pub envelope-broken : (origin text : List ℕ) (line : ℕ) → envelope_of origin text ≡ Err (BadEnvelope line) → first_bad_command origin 0 (envelope_commands text) ≡ Some line
envelope-broken origin text line h = at (first_bad_command origin 0 (envelope_commands text)) refl where
  at : (o : Option ℕ) → first_bad_command origin 0 (envelope_commands text) ≡ o → o ≡ Some line
  at None e = let good : envelope_of origin text ≡ Ok (envelope_by origin (envelope_commands text)) = envelope-good origin text (ap (option_map BadEnvelope) e) in absurd (let no : ⊥ = cc in no)
  at (Some n) e = let refused : envelope_of origin text ≡ Err (BadEnvelope n) = envelope-fault origin text (BadEnvelope n) (ap (option_map BadEnvelope) e) in cc
