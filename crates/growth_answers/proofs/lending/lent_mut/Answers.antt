use Rattle.std.proofs.Common.{refl}
use Rattle.growth_answers.proofs.lending.lent_mut.Goals as goal

-- src/lending.rt:38:1
pub returns : goal.returns
returns g c = (c.case.new.arg2, record { shown = _; shows = refl; left = _; met = c.case.ensures; leaves = refl })
