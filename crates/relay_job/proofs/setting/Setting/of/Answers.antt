use Rattle.std.proofs.Common.{◌+◌, sym, ap, ◌∙◌}
use Rattle.std.proofs.lemmas.List.{take_rest}
use Rattle.relay_text.specs.Bytes.{trimmed}
use Rattle.relay_job.proofs.SettingFacts.{setting_of-found, setting_of-missing}
use Rattle.relay_job.proofs.setting.Setting.of.Goals as goal

pub returns-in_err-equals : goal.returns-in_err-equals
returns-in_err-equals c = rw c.from_residual.ensures (setting_of-missing c.args.line.now (sym c.in_err-equals.was ∙ c.equals_place.ensures))

pub returns : goal.returns
returns c =
    setting_of-found c.args.line.now c.in_ok-equals.equals c.trimmed.result.now c.trimmed-2.result.now (sym c.in_ok-equals.was ∙ c.equals_place.ensures) c.trimmed.ensures
    (c.trimmed-2.ensures ∙ ap trimmed (take_rest c.args.line.now (c.in_ok-equals.equals + 1)))
