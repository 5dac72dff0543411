-- Recipients whose commands are read in two parts.
use Rattle.std.proofs.Common.{◌≡◌, ◌<◌, ◌≤◌, ◌+◌, ◌*◌, ◌/◌, ℕ, zero, suc, List, [], ◌∷◌, ◌++◌, length, Some, refl, sym, ap, ◌∙◌, arith}
use Rattle.std.specs.List.{slice_get, list_any}
use Rattle.std.specs.Option.{option_map}
use Rattle.std.proofs.lemmas.Grind.{flat_map-append}
use Rattle.std.proofs.lemmas.Nat.{column_fits, div-add-mod'}
use Rattle.std.proofs.lemmas.List.{length-append, map-append}
use Rattle.std.proofs.lemmas.List.Elements.{filter_map-append, filter-append}
use Rattle.std.proofs.lemmas.List.Folds.{list_any-append}
use Rattle.relay_text.specs.AddressParts.{AddressParts}
use Rattle.relay_text.specs.declared.lines.Line.{Line}
use Rattle.relay_job.specs.declared.place.Place.{Place}
use Rattle.relay_job.specs.declared.fault.RunFault.{RunFault}
use Rattle.relay_job.specs.declared.fault.RunFault.TheVariants.{BadEnvelope}
use Rattle.relay_job.specs.JobText.{JobLine, is_heading}
use Rattle.relay_job.specs.Places.{lines_at, content_at, IsWithinSection}
use Rattle.relay_job.specs.JobParts.{command_of, lines_of, commands_of, commands_at, recipients_of, bad_recipients, first_bad_recipient, AreRecipientsOf, Stops}
use Rattle.relay_job.proofs.EnvelopeFacts.{Stops-from}
use Rattle.relay_job.proofs.JoinedLines.{neither-any}
use Rattle.relay_job.proofs.PlaceCuts.{content_within}

-- Where each worker has as many bytes, those of some of them end before the last byte.
pub front_ends : (len workers front : ℕ) → 0 < len → front < workers → len / workers * front < len
front_ends len workers front some few = at (len / workers) (omega (arith, column_fits (len / workers) front (len / workers) workers few (omega arith), div-add-mod' len workers)) where
  at : (each : ℕ) → each * front + each ≤ len → each * front < len
  at zero h = omega (arith, some)
  at (suc each) h = omega (arith, h)

-- ---- the commands of lines that are cut in two
pub commands_at-both : (section front back : Place) → content_at section ≡ content_at front ++ content_at back → commands_at section ≡ commands_at front ++ commands_at back
commands_at-both section front back cut =
    ap (λ (lines : List JobLine). commands_of (lines_of lines)) cut
    ∙ ap commands_of (map-append command_of (content_at front) (content_at back))
    ∙ filter-append _ (lines_of (content_at front)) (lines_of (content_at back))

-- What goes on to the text's end does in both parts.
pub parts_within : (section front back : Place) → IsWithinSection section → lines_at section ≡ lines_at front ++ lines_at back → IsWithinSection front × IsWithinSection back
parts_within section front back h cut = neither-any (list_any is_heading (lines_at front)) (list_any is_heading (lines_at back)) (sym (list_any-append is_heading (lines_at front) (lines_at back)) ∙ ap (list_any is_heading) (sym cut) ∙ h)

pub commands_at-halves : (section front back : Place) → IsWithinSection section → lines_at section ≡ lines_at front ++ lines_at back → commands_at section ≡ commands_at front ++ commands_at back
commands_at-halves section front back h cut =
    let within = parts_within section front back h cut in
    commands_at-both section front back (content_within section h ∙ cut ∙ ap (λ (lines : List JobLine). lines ++ lines_at back) (sym (content_within front within.0)) ∙ ap (λ (lines : List JobLine). content_at front ++ lines) (sym (content_within back within.1)))

-- ---- what was read of both parts
module _ (origin : List ℕ) (commands front back : List Line) (cut : commands ≡ front ++ back) where
  bad_in : bad_recipients origin commands ≡ bad_recipients origin front ++ bad_recipients origin back
  bad_in = ap (bad_recipients origin) cut ∙ flat_map-append _ front back

  pub both_read : (recipients more all : List AddressParts) → all ≡ recipients ++ more → AreRecipientsOf origin front recipients → AreRecipientsOf origin back more → AreRecipientsOf origin commands all
  both_read recipients more all joined first second = record {
    named = joined ∙ ap (λ (rs : List AddressParts). rs ++ more) first.named ∙ ap (λ (rs : List AddressParts). recipients_of origin front ++ rs) second.named ∙ sym (filter_map-append _ front back) ∙ ap (recipients_of origin) (sym cut);
    number = omega (arith, ap length joined, length-append recipients more, first.number, second.number, ap length cut, length-append front back);
    unbroken = bad_in ∙ rw (first.unbroken, second.unbroken) refl;
  }

  -- The first part's fault comes first, and the second's where the first has none.
  pub first_refused : (fault : RunFault) → Stops (first_bad_recipient origin front) fault → Stops (first_bad_recipient origin commands) fault
  first_refused fault h = Stops-from _ _ fault (λ f g. ap (λ (ns : List ℕ). option_map BadEnvelope (slice_get ns 0)) bad_in ∙ at (bad_recipients origin front) f g) h where
    at : (ns : List ℕ) (f : RunFault) → option_map BadEnvelope (slice_get ns 0) ≡ Some f → option_map BadEnvelope (slice_get (ns ++ bad_recipients origin back) 0) ≡ Some f
    at [] f g = cc
    at (n ∷ ns) f g = g

  pub second_refused : (recipients : List AddressParts) (fault : RunFault) → AreRecipientsOf origin front recipients → Stops (first_bad_recipient origin back) fault → Stops (first_bad_recipient origin commands) fault
  second_refused recipients fault first h = Stops-from _ _ fault (λ f g. ap (λ (ns : List ℕ). option_map BadEnvelope (slice_get ns 0)) (bad_in ∙ ap (λ (ns : List ℕ). ns ++ bad_recipients origin back) first.unbroken) ∙ g) h
