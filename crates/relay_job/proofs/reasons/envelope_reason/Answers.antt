use Rattle.std.proofs.Common.{◌≡◌, List, sym, ap, ◌∙◌}
use Rattle.std.specs.Option.{option_map}
use Rattle.std.proofs.lemmas.Result.{IfOk-weaker, IfErr-weaker}
use Rattle.relay_text.specs.declared.lines.Line.{Line}
use Rattle.relay_job.specs.declared.fault.RunFault.TheVariants.{BadSetting}
use Rattle.relay_job.specs.Settings.{settings_of}
use Rattle.relay_job.specs.JobText.{job_settings}
use Rattle.relay_job.specs.JobParts.{first_bad_setting}
use Rattle.relay_job.specs.SectionPlaces.{setting_lines_of}
use Rattle.relay_job.proofs.ParseFacts.{settings_lines, envelope_commands, envelope_heading}
use Rattle.relay_job.proofs.ReasonFacts.{stops-memory, no_bad_setting, envelope-told}
use Rattle.relay_job.proofs.reasons.envelope_reason.Goals as goal

pub returns-clause-reason : goal.returns-clause-reason
returns-clause-reason c =
    let text = c.args.bytes.now in
    let parts = c.in_ok-parts.parts in
    let found = c.in_ok-parts.ensures.ok in
    let origin : (settings_of (setting_lines_of parts)).origin ≡ (job_settings text).origin = ap (λ (l : List Line). (settings_of l).origin) (sym (settings_lines text parts found)) in
    IfOk-weaker c.reason_in_parts.result _ _ (λ reason told. envelope-told _ _ _ _ _ _ reason origin (sym (envelope_heading text parts found)) (sym (envelope_commands text parts found)) told) c.reason_in_parts.ensures.reason

pub returns-clause-told : goal.returns-clause-told
returns-clause-told c =
    let text = c.args.bytes.now in
    IfErr-weaker c.reason_in_parts.result _ _
    (λ fault stops number h. stops-memory _ fault (ap (option_map BadSetting) (ap first_bad_setting (sym (settings_lines text c.in_ok-parts.parts c.in_ok-parts.ensures.ok)) ∙ no_bad_setting text number h)) stops)
    c.reason_in_parts.ensures.err
