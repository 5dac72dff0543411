use Rattle.relay_envelopes.specs.Envelopes.{section_in}
use Rattle.aliasplan_each.proofs.BlockFacts.{on_ok_both, grows_by_plan, grows_by_refusal}
use Rattle.aliasplan_each.proofs.answers.Answers.add.Goals as goal

pub returns-in-Ok : goal.returns-in-Ok
returns-in-Ok g c =
    on_ok_both c.add_plan.result c.add_plan.ensures.text c.add_plan.ensures.counts
    (λ text counts.
    grows_by_plan c.args.crew.now.limits c.args.wording c.args.planner.now (section_in c.args.section) c.args.self.now.text.items c.add_plan.new.self.text.items c.args.self.now.counts c.add_plan.new.self.counts c.in-Ok.planned.text.items c.in-Ok.planned.findings c.in-Ok.ensures.planned text counts)

pub returns-in_ok-refusal_of-in-Err : goal.returns-in_ok-refusal_of-in-Err
returns-in_ok-refusal_of-in-Err g c =
    on_ok_both c.add_refusal.result c.add_refusal.ensures.text c.add_refusal.ensures.counts
    (λ text counts.
    grows_by_refusal c.args.crew.now.limits c.args.wording c.args.planner.now (section_in c.args.section) c.args.self.now.text.items c.add_refusal.new.self.text.items c.args.self.now.counts c.add_refusal.new.self.counts c.in-Err.fault c.in_ok-refusal_of-in-Err.field-0 c.in-Err.ensures.refused c.in_ok-refusal_of-in-Err.ensures text counts)
