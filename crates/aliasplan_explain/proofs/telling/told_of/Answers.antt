use Rattle.std.proofs.Common.{refl, ap, subst, ◌∙◌}
use Rattle.relay_tables.specs.Senders.{Sender}
use Rattle.relay_explain.specs.Explanations.{Answer}
use Rattle.relay_explain.specs.PiecedTexts.{text_of}
use Rattle.aliasplan_explain.specs.Explanations.{IsOutcome}
use Rattle.aliasplan_explain.proofs.telling.told_of.Goals as goal

pub returns-clause-told : goal.returns-clause-told
returns-clause-told c =
    let job = c.args.grounds.now.job.now in
    let chain = c.args.chain in
    let is = c.requires.chain in
    let outcome = c.in_ok-outcome.outcome in
    let a : Answer = record { steps = is.are.steps; from = chain.from; given_by = chain.given_by; outcome = outcome } in (
      a,
      record {
        trail = is.trail;
        best = is.best;
        steps = is.are.are;
        outcome = subst (λ (s : Sender). IsOutcome job c.args.plan.now c.args.node.now s outcome) c.as_ref.ensures.value c.in_ok-outcome.ensures;
      },
      record {
        lines = ap text_of c.of.ensures ∙ is.are.texts_are;
        from = refl;
        given_by = refl;
        outcome = refl;
      },
    )
