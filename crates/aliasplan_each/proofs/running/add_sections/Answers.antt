use Rattle.std.proofs.Common.{List, map, subst}
use Rattle.std.proofs.lemmas.List.{take_all}
use Rattle.relay_envelopes.specs.declared.section.EnvelopeSection.{EnvelopeSection}
use Rattle.relay_envelopes.specs.Envelopes.{section_in}
use Rattle.aliasplan_each.proofs.BlockFacts.{Grown, grown_next, all_grown}
use Rattle.aliasplan_each.proofs.running.add_sections.Goals as goal

pub loop-section-preserved : goal.loop-section-preserved
loop-section-preserved g c =
    let limits = c.args.crew.now.limits in
    let wording = c.args.wording in
    let before = c.loop-section.answers in
    let after = c.add.new.self in
    grown_next limits wording c.args.planner.now c.args.sections.now c.loop-section.section-index _ c.loop-section-test.true c.args.answers.now.text.items before.text.items after.text.items c.args.answers.now.counts before.counts after.counts c.loop-section.invariant c.in_ok-add.ensures

pub returns : goal.returns
returns g c =
    let limits = c.args.crew.now.limits in
    let wording = c.args.wording in
    let tables = c.args.planner.now in
    let old = c.args.answers.now in
    let new = c.loop-section.answers in
    let all = take_all c.loop-section.section-index c.args.sections.now c.loop-section-test.false in
    let grown = subst (λ (sections : List EnvelopeSection). Grown limits wording tables (map section_in sections) old.text.items new.text.items old.counts new.counts) all c.loop-section.invariant in
    all_grown limits wording tables (map section_in c.args.sections.now) old.text.items new.text.items old.counts new.counts grown
