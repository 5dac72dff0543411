use Rattle.std.proofs.Common.{Ok, Err, ap, refl, sym, subst, ◌∙◌, arith}
use Rattle.std.proofs.lemmas.Grind.{common_steps}
use Rattle.std.proofs.lemmas.Result.{err_from_is_err_and}
use Rattle.aliasplan.specs.Outcomes.{IsReadFault}
use Rattle.aliasplan_each.specs.BesideSteps.{IsWriteFault}
use Rattle.aliasplan_each.proofs.BesideFacts.{on_err, if_some}
use Rattle.aliasplan_each.proofs.BesideRuns.{refused-write, known-read}
use Rattle.aliasplan_each.proofs.FaultFacts.{told, untold, never-err}
use Rattle.aliasplan_each.proofs.ReplyFacts.{FrontsReplies-none, Replied-start, Replied-block, Replied-stopped, Replied-change, Replied-stopped_change, Replied-end, Replied-front, Replied-long}
use Rattle.aliasplan_each.proofs.beside.answer_asks.Goals as goal

pub returns-in_err-feeding-clause-front : goal.returns-in_err-feeding-clause-front
returns-in_err-feeding-clause-front g c = on_err _ (if_some _ (λ input. FrontsReplies-none _ _ _ _ _ _))

pub loop-answers-init : goal.loop-answers-init
loop-answers-init g c = record {
  works = c.requires.reader.0;
  told = grind (arith, common_steps);
  writes = c.requires.writer;
  asked = grind (arith, common_steps);
  replied = Replied-start _ _ _ _ _ _ _ _ _ _ _ c.in_ok-feeding.ensures.number c.in_ok-feeding.ensures.pending c.in_ok-feeding.ensures.asked c.in_ok-feeding.ensures.begun c.none-answers.ensures.counts;
}

pub returns-in_err-section-clause-refused : goal.returns-in_err-section-clause-refused
returns-in_err-section-clause-refused g c =
    let p = err_from_is_err_and c.from_residual-in_err-section.result c.from_residual-in_err-section.ensures.1 in
    rw (p.1, p.2) (known-read c.args.crew.now.limits c.args.planner.now _ _ c.in_err-section.ensures.only (λ e. Replied-long _ _ _ _ _ _ _ _ _ _ _ _ _ _ c.loop-answers.invariant.replied (c.in_err-section.ensures.long (ap Err e))))

pub returns-in_err-section-clause-read : goal.returns-in_err-section-clause-read
returns-in_err-section-clause-read g c =
    let p = err_from_is_err_and c.from_residual-in_err-section.result c.from_residual-in_err-section.ensures.1 in
    rw (p.1, p.2) (told _ _ _ _ refl refl c.in_err-section.ensures.read)

pub returns-in_err-section-clause-write : goal.returns-in_err-section-clause-write
returns-in_err-section-clause-write g c =
    let p = err_from_is_err_and c.from_residual-in_err-section.result c.from_residual-in_err-section.ensures.1 in
    rw (p.1, p.2) (untold _ _ _ refl (λ e. subst IsReadFault e c.in_err-section.ensures.only) c.loop-answers.invariant.writes)

pub returns-in_err-section-clause-front : goal.returns-in_err-section-clause-front
returns-in_err-section-clause-front g c = on_err _ (Replied-front _ _ _ _ _ _ _ _ _ _ _ _ _ _ c.loop-answers.invariant.replied)

pub returns-in_err-answer_section-clause-refused : goal.returns-in_err-answer_section-clause-refused
returns-in_err-answer_section-clause-refused g c =
    let p = err_from_is_err_and c.from_residual-in_err-answer_section.result c.from_residual-in_err-answer_section.ensures.1 in
    rw (p.1, p.2) (if_some _ (λ input. refused-write c.args.crew.now.limits c.args.planner.now input _ c.in_err-answer_section.ensures.only))

pub returns-in_err-answer_section-clause-read : goal.returns-in_err-answer_section-clause-read
returns-in_err-answer_section-clause-read g c =
    let p = err_from_is_err_and c.from_residual-in_err-answer_section.result c.from_residual-in_err-answer_section.ensures.1 in
    rw (p.1, p.2) (untold _ _ _ refl (λ e. subst IsWriteFault e c.in_err-answer_section.ensures.only) (c.in_ok-section.ensures.read.1 (never-err _ _ _ refl)))

pub returns-in_err-answer_section-clause-write : goal.returns-in_err-answer_section-clause-write
returns-in_err-answer_section-clause-write g c =
    let p = err_from_is_err_and c.from_residual-in_err-answer_section.result c.from_residual-in_err-answer_section.ensures.1 in
    rw (p.1, p.2) (told _ _ _ _ refl refl c.in_err-answer_section.ensures.write)

pub returns-in_err-answer_section-clause-front : goal.returns-in_err-answer_section-clause-front
returns-in_err-answer_section-clause-front g c = on_err _ (Replied-stopped _ _ _ _ _ _ _ _ _ _ _ _ _ _ _ _ _ _ _ c.in-Some.section c.loop-answers.invariant.replied (rw c.in-Some.is at c.in_ok-section.ensures.given) c.in_err-answer_section.ensures.front)

pub loop-answers-preserved-in-Some : goal.loop-answers-preserved-in-Some
loop-answers-preserved-in-Some g c = record {
  works = c.in_ok-section.ensures.read.1 (never-err _ _ _ refl);
  told = c.in_ok-section.ensures.told;
  writes = c.in_ok-answer_section.ensures.write.1 (never-err _ _ _ refl);
  asked = c.in_ok-section.ensures.asked;
  replied = Replied-block _ _ _ _ _ _ _ _ _ _ _ _ _ _ _ _ _ _ _ c.in-Some.section _ c.loop-answers.invariant.replied (rw c.in-Some.is at c.in_ok-section.ensures.given) c.in_ok-answer_section.ensures.written;
}

pub returns-then-not-passes_tables-clause-written : goal.returns-then-not-passes_tables-clause-written
returns-then-not-passes_tables-clause-written g c =
    let unasked = sym c.passes_tables.ensures.result ∙ c.if-not-passes_tables.true in
    Replied-end _ _ _ _ _ _ _ _ _ _ _ _ _ _ _ _ _ c.loop-answers.invariant.replied (rw (c.in_default.is, unasked) at c.in_ok-section.ensures.given) (c.in_ok-section.ensures.none (ap Ok c.in_default.is)) (c.in_ok-section.ensures.end (ap Ok c.in_default.is) unasked).0

pub returns-in_err-change_tables-clause-refused : goal.returns-in_err-change_tables-clause-refused
returns-in_err-change_tables-clause-refused g c =
    let p = err_from_is_err_and c.from_residual-in_err-change_tables.result c.from_residual-in_err-change_tables.ensures.1 in
    rw (p.1, p.2) (if_some _ (λ input. refused-write c.args.crew.now.limits c.args.planner.now input _ c.in_err-change_tables.ensures.only))

pub returns-in_err-change_tables-clause-read : goal.returns-in_err-change_tables-clause-read
returns-in_err-change_tables-clause-read g c =
    let p = err_from_is_err_and c.from_residual-in_err-change_tables.result c.from_residual-in_err-change_tables.ensures.1 in
    rw (p.1, p.2) (untold _ _ _ refl (λ e. subst IsWriteFault e c.in_err-change_tables.ensures.only) (c.in_ok-section.ensures.read.1 (never-err _ _ _ refl)))

pub returns-in_err-change_tables-clause-write : goal.returns-in_err-change_tables-clause-write
returns-in_err-change_tables-clause-write g c =
    let p = err_from_is_err_and c.from_residual-in_err-change_tables.result c.from_residual-in_err-change_tables.ensures.1 in
    rw (p.1, p.2) (told _ _ _ _ refl refl c.in_err-change_tables.ensures.write)

pub returns-in_err-change_tables-clause-front : goal.returns-in_err-change_tables-clause-front
returns-in_err-change_tables-clause-front g c =
    on_err _ (Replied-stopped_change _ _ _ _ _ _ _ _ _ _ _ _ _ _ _ _ _ _ c.loop-answers.invariant.replied (rw (c.in_default.is, sym c.passes_tables.ensures.result ∙ c.if-not-passes_tables.false) at c.in_ok-section.ensures.given) c.in_err-change_tables.ensures.front)

pub loop-answers-preserved : goal.loop-answers-preserved
loop-answers-preserved g c = record {
  works = c.in_ok-section.ensures.read.1 (never-err _ _ _ refl);
  told = c.in_ok-section.ensures.told;
  writes = c.in_ok-change_tables.ensures.write.1 (never-err _ _ _ refl);
  asked = grind (arith, common_steps);
  replied =
      rw (c.passes_tables.ensures.number, c.passes_tables.ensures.pending, c.passes_tables.ensures.begun, c.passes_tables.ensures.asked)
      (Replied-change _ _ _ _ _ _ _ _ _ _ _ _ _ _ _ _ _ _ _ _ c.loop-answers.invariant.replied (rw (c.in_default.is, sym c.passes_tables.ensures.result ∙ c.if-not-passes_tables.false) at c.in_ok-section.ensures.given) c.in_ok-change_tables.ensures.written c.in_ok-change_tables.ensures.later);
}
