use Rattle.std.proofs.Common.{◌≡◌, List, ap, ◌∙◌}
use Rattle.relay_job.specs.declared.settings.Settings.{Settings}
use Rattle.relay_job.specs.declared.section.Section.TheVariants.{Envelope}
use Rattle.relay_job.specs.Settings.{settings_of}
use Rattle.relay_job.specs.JobText.{JobLine}
use Rattle.relay_job.specs.JobParts.{lines_of, commands_of, commands_at}
use Rattle.relay_job.specs.SectionPlaces.{content_behind, place_of, setting_lines_of}
use Rattle.relay_job.proofs.JobFacts.{settings_of-origin}
use Rattle.relay_job.proofs.ReasonFacts.{envelope-told}
use Rattle.relay_job.proofs.reasons.reason_in_parts.Goals as goal

pub reason-requires : goal.reason-requires
reason-requires c = rw (c.as_bytes.ensures, c.in_ok-settings.ensures.ok.are) (settings_of-origin (setting_lines_of c.args.parts.now))

pub returns-clause-reason : goal.returns-clause-reason
returns-clause-reason c =
    let origin : c.as_bytes.result.now ≡ (settings_of (setting_lines_of c.args.parts.now)).origin = c.as_bytes.ensures ∙ ap (λ (s : Settings). s.origin) c.in_ok-settings.ensures.ok.are in
    let commands : commands_at c.section-section.result ≡ commands_of (lines_of (content_behind (place_of c.args.parts.now.sections Envelope))) = ap (λ (l : List JobLine). commands_of (lines_of l)) c.section-section.ensures.lines in
    envelope-told _ _ _ _ _ _ c.in_ok-reason.field-0 origin c.section-section.ensures.heading commands c.in_ok-reason.ensures
