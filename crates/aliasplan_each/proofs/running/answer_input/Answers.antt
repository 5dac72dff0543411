use Rattle.std.proofs.Common.{List, map, sym, subst}
use Rattle.std.proofs.lemmas.Result.{err_from_is_err_and, IfOk-weaker, IfErr-weaker}
use Rattle.relay_envelopes.specs.declared.section.EnvelopeSection.{EnvelopeSection}
use Rattle.relay_envelopes.specs.Envelopes.{section_in}
use Rattle.aliasplan.specs.Outcomes.{AreTableCountsWithin}
use Rattle.aliasplan_each.specs.Runs.{RefusesEachBytes, IsEachAnswer}
use Rattle.aliasplan_each.proofs.EachFacts.{refuses_each, refuses_tables, text_is}
use Rattle.aliasplan_each.proofs.running.answer_input.Goals as goal

pub returns-in_err-tables-clause-refused : goal.returns-in_err-tables-clause-refused
returns-in_err-tables-clause-refused g c =
    let p = err_from_is_err_and c.from_residual.result c.from_residual.ensures.1 in
    rw (p.1, p.2) (refuses_each c.args.crew.now.limits c.args.input.now c.requires c.in_err-tables.field-0.0 c.in_err-tables.ensures.refused)

pub returns-in-Err-clause-refused : goal.returns-in-Err-clause-refused
returns-in-Err-clause-refused g c = refuses_tables c.args.crew.now.limits c.args.input.now c.requires c.in_ok-tables.field-0.tables c.in_ok-tables.ensures.parts.read c.in-Err.fault c.in-Err.ensures.refused

pub returns-in-Ok-clause-answered : goal.returns-in-Ok-clause-answered
returns-in-Ok-clause-answered g c =
    let limits = c.args.crew.now.limits in
    let wording = c.args.wording in
    let planner = c.in-Ok.planner in
    let tables = c.in-Ok.ensures.tables in
    let within = c.in-Ok.ensures.within in
    let few : AreTableCountsWithin limits c.in_ok-tables.field-0.tables = record { names = within.names; owners = within.owners } in
    IfOk-weaker c.answer_sections-answered.result _ _
    (λ it answered.
    text_is limits c.args.input.now c.requires wording c.in_ok-tables.field-0.tables planner (map section_in c.in_ok-tables.field-0.sections.items) it.text.items it.summary c.in_ok-tables.ensures.parts tables few
    (subst (λ (sections : List EnvelopeSection). IsEachAnswer limits wording planner (map section_in sections) it.text.items it.summary) c.deref.ensures.value answered))
    c.answer_sections-answered.ensures.answer

pub returns-in-Ok-clause-refused : goal.returns-in-Ok-clause-refused
returns-in-Ok-clause-refused g c =
    IfErr-weaker c.answer_sections-answered.result _ _ (λ fault memory. subst (RefusesEachBytes c.args.crew.now.limits c.args.input.now) (sym memory) tt) c.answer_sections-answered.ensures.memory
