use Rattle.std.proofs.Common.{ℕ, List, subst, ◌∙◌}
use Rattle.std.proofs.lemmas.Result.{err_from_is_err_and, IfErr-weaker, IfOk-weaker}
use Rattle.aliasplan.proofs.Faults.{refuses_job}
use Rattle.aliasplan_explain.specs.Explanations.{IsExplanationOf}
use Rattle.aliasplan_explain.proofs.RunFacts.{only_memory}
use Rattle.aliasplan_explain.proofs.running.answer_parsed.Goals as goal

pub returns-in_err-lines-clause-refused : goal.returns-in_err-lines-clause-refused
returns-in_err-lines-clause-refused g c =
    let p = err_from_is_err_and c.from_residual.result c.from_residual.ensures.1 in
    rw (p.1, p.2, only_memory c.args.input.now c.args.job.now c.requires.job c.in_err-lines.field-0.0 c.in_err-lines.ensures.refused) tt

pub returns-clause-explained : goal.returns-clause-explained
returns-clause-explained g c = IfOk-weaker c.answer_job.result _ _
    (λ it h. record {
      size = c.requires.size;
      job = c.args.job.now;
      read = c.requires.job;
      within = h.0;
      plan = h.1.0;
      planned = h.1.1;
      explanation = h.1.2.0;
      explained = subst (λ (lines : List ℕ). IsExplanationOf c.args.job.now h.1.0 lines c.args.asked.now h.1.2.0) (c.deref.ensures.value ∙ c.in_ok-lines.ensures.lines) h.1.2.1;
      written = h.1.2.2;
      told = h.1.2.3;
    })
    c.answer_job.ensures.explained

pub returns-clause-refused : goal.returns-clause-refused
returns-clause-refused g c =
    IfErr-weaker c.answer_job.result _ _ (refuses_job c.args.crew.now.limits c.args.input.now c.requires.size c.args.job.now c.requires.job) c.answer_job.ensures.refused
