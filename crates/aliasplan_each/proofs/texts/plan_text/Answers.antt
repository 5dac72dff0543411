use Rattle.std.proofs.lemmas.Result.{err_from_is_err_and}
use Rattle.std.specs.Prelude.{false}
use Rattle.relay_envelopes.specs.Envelopes.{section_in}
use Rattle.aliasplan_each.proofs.BlockFacts.{fault_of_section, fault_of_job}
use Rattle.aliasplan_each.proofs.texts.plan_text.Goals as goal

pub returns-in_err-envelope-clause-refused : goal.returns-in_err-envelope-clause-refused
returns-in_err-envelope-clause-refused g c =
    let p = err_from_is_err_and c.from_residual.result c.from_residual.ensures.1 in
    rw (p.1, p.2) (fault_of_section c.args.crew.now.limits false c.args.planner.now (section_in c.args.section) c.in_err-envelope.field-0.0 c.in_err-envelope.ensures)

pub returns-in_err-plan-clause-refused : goal.returns-in_err-plan-clause-refused
returns-in_err-plan-clause-refused g c =
    let p = err_from_is_err_and c.from_residual-in_err-plan.result c.from_residual-in_err-plan.ensures.1 in
    rw (p.1, p.2) (fault_of_job c.args.crew.now.limits false c.args.planner.now (section_in c.args.section) c.in_ok-envelope.envelope c.in_ok-envelope.ensures c.in_err-plan.field-0.0 c.in_err-plan.ensures.refused)

pub returns-clause-planned : goal.returns-clause-planned
returns-clause-planned g c = record {
  envelope = c.in_ok-envelope.envelope;
  read = c.in_ok-envelope.ensures;
  within = c.in_ok-plan.ensures.within;
  plan = c.in_ok-plan.plan;
  planned = c.in_ok-plan.ensures.plan;
  sound = c.in_ok-plan.ensures.sound;
  fewest = c.in_ok-plan.ensures.fewest;
  written = c.in_ok-written.ensures.text;
  counted = c.in_ok-written.ensures.findings;
}
