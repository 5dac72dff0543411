use Rattle.std.proofs.Common.{sym, ◌∙◌}
use Rattle.relay_job.specs.SettingValues.{setting_in}
use Rattle.relay_job.proofs.ReasonFacts.{value-broken}
use Rattle.relay_job.proofs.reasons.setting_reason.Goals as goal

pub returns-else-branch : goal.returns-else-branch
returns-else-branch c = λ earlier l text broken. rw text
    (value-broken earlier c.args.text.now c.in-Some.setting.key.now c.in-Some-value_reason.bad_value (sym c.in-Some-value_reason.ensures)
    (record { setting = setting_in c.in-Some.setting; names = sym c.in-Some.ensures; holds = (sym c.in-Some-value_reason.ensures, sym c.in_ok-takes.ensures ∙ c.if-branch.false) }))
