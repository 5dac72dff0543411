use Rattle.std.proofs.Common.{map}
use Rattle.relay_envelopes.specs.Envelopes.{section_in}
use Rattle.aliasplan_each.proofs.EachFacts.{answer_is}
use Rattle.aliasplan_each.proofs.running.answer_sections.Goals as goal

pub returns-clause-answer : goal.returns-clause-answer
returns-clause-answer g c =
    let none = c.none-answers.result in
    let begun = c.put_findings.new.out.items in
    let grown = c.add_sections.new.answers in
    answer_is c.args.crew.now.limits c.args.wording c.args.planner.now (map section_in c.args.sections.now) none.text.items begun grown.text.items c.put_done.new.out.items c.in_ok-findings.findings none.counts grown.counts c.none-answers.ensures.text c.none-answers.ensures.counts c.in_ok-findings.ensures c.in_ok-add_sections.ensures c.in_ok-put_done.ensures
