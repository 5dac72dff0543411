use Rattle.std.proofs.Common.{List, ℕ, ap, ◌∙◌, subst, sym, arith}
use Rattle.std.proofs.lemmas.Grind.{common_steps}
use Rattle.relay_job.specs.JobAnswers.{Answers}
use Rattle.relay_job.specs.Envelopes.{envelope_of}
use Rattle.relay_job.specs.declared.settings.Settings.{Settings}
use Rattle.relay_envelopes.specs.Envelopes.{section_in}
use Rattle.aliasplan_each.proofs.BlockFacts.{short_section}
use Rattle.aliasplan_each.proofs.texts.envelope_of.Goals as goal

pub returns : goal.returns
returns g c =
    let origin = c.as_bytes-origin.ensures ∙ ap (λ (s : Settings). s.origin) c.settings.ensures.settings in
    subst (Answers c.parse_envelope.result) (sym (short_section c.args.crew.now.limits c.args.planner.now (section_in c.args.section) (grind (arith, common_steps))))
    (subst (λ (o : List ℕ). Answers c.parse_envelope.result (envelope_of o c.args.section.bytes.now)) origin c.parse_envelope.ensures)
