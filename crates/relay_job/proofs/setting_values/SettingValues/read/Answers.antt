use Rattle.relay_job.proofs.SettingFacts.{none_read}
use Rattle.relay_job.proofs.setting_values.SettingValues.read.Goals as goal

pub take_all-requires : goal.take_all-requires
take_all-requires c = none_read c.default-values.result c.default-values.ensures
