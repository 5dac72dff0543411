use Rattle.std.proofs.Common.{◌∙◌, ◌++◌, ℕ, List, ap}
use Rattle.relay_wire.specs.PlanText.{plan_text_of}
use Rattle.relay_wire.specs.PlanTexts.{bare, plan_from}
use Rattle.relay_wire.proofs.plan_texts.whole_text.Goals as goal

pub returns : goal.returns
returns c = λ hostname.
    c.of.ensures
    ∙ c.in_ok-put_whole.ensures hostname
    ∙ ap (λ (front : List ℕ). front ++ plan_text_of (plan_from hostname c.args.transactions.now (bare c.args.findings.now))) c.in_ok-out.ensures.items
