use Rattle.std.proofs.Common.{refl}
use Rattle.relay_explain.specs.Explanations.{Explanation}
use Rattle.aliasplan_explain.proofs.AnswerFacts.{answers_are, none_answered, none_told}
use Rattle.aliasplan_explain.proofs.AskedTargets.{asked_has_target}
use Rattle.aliasplan_explain.proofs.explaining.telling_by.Goals as goal

pub target_with_decision-requires-clause-target : goal.target_with_decision-requires-clause-target
target_with_decision-requires-clause-target c = asked_has_target c.args.grounds.now.job.now c.args.asked.now c.args.node.now c.requires.node

pub returns : goal.returns
returns c =
    let node = c.args.node.now in
    let found = answers_are c.args.grounds.now.job.now c.args.plan.now c.args.grounds.now.recipient_lines.now node c.args.answers c.requires.answers in
    let question = c.in_ok-question in
    let aim = c.in_ok-aim in
    let e : Explanation = record {
      asked = question.question.0;
      target = aim.aim.0;
      decision = aim.aim.1;
      answers = found.0;
      stands_for = question.question.1;
      unreached = c.in_ok-unreached.unreached;
    } in (
      e,
      record {
        asked = question.ensures.asked;
        node = node;
        asked_for = c.requires.node;
        target = aim.ensures.target;
        stands = question.ensures.stands;
        decision = aim.ensures.decision;
        answers = found.1;
        unreached = λ none. c.in_ok-unreached.ensures.none (none_told found.0 c.args.answers found.2 none);
        reached = λ some. c.in_ok-unreached.ensures.some (λ none. some (none_answered found.0 c.args.answers found.2 none));
      },
      record {
        asked = refl;
        target = refl;
        decision = refl;
        answers = found.2;
        stands_for = refl;
        unreached = refl;
      },
    )
