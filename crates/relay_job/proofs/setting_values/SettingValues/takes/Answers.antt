use Rattle.std.proofs.Common.{None, ◌∙◌}
use Rattle.relay_job.specs.SettingValues.{setting_in}
use Rattle.relay_job.specs.Settings.{is_good_setting}
use Rattle.relay_job.proofs.SettingFacts.{none_read}
use Rattle.relay_job.proofs.ReasonFacts.{and_true, none_are_read}
use Rattle.relay_job.proofs.setting_values.SettingValues.takes.Goals as goal

pub returns : goal.returns
returns c =
    let set = c.in_ok-good.ensures (λ name. None) (none_are_read c.default-values.result (none_read c.default-values.result c.default-values.ensures)) in
    set.fresh ∙ and_true (is_good_setting (setting_in c.args.setting))
