use Rattle.std.proofs.Common.{◌≡◌}
use Rattle.std.specs.List.{concat}
use Rattle.std.proofs.lemmas.Result.{IfOk-weaker}
use Rattle.relay_wire.specs.PlanText.{plan_text_of}
use Rattle.relay_wire.specs.PlanTexts.{bare, plan_from}
use Rattle.relay_wire.proofs.Results.{if_ok_all}
use Rattle.relay_wire.proofs.plan_texts.texts_by.Goals as goal

pub returns-then-threads-lt2 : goal.returns-then-threads-lt2
returns-then-threads-lt2 g c =
    if_ok_all (λ hostname texts. concat texts.items ≡ plan_text_of (plan_from hostname c.args.transactions.now (bare c.args.findings.now))) c.one_text.result
    (λ hostname. c.one_text.ensures (plan_text_of (plan_from hostname c.args.transactions.now (bare c.args.findings.now))) (IfOk-weaker c.whole_text-text.result _ _ (λ text is. is hostname) c.whole_text-text.ensures))
