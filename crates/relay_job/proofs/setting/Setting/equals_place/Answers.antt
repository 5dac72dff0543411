use Rattle.relay_text.proofs.Scans.{position_is}
use Rattle.relay_job.specs.Settings.{is_equals}
use Rattle.relay_job.proofs.setting.Setting.equals_place.Goals as goal

pub returns : goal.returns
returns c = position_is is_equals c.args.line.now c.find_byte.result c.find_byte.ensures
