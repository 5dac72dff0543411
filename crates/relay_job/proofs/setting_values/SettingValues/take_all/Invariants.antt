use Rattle.std.proofs.Common.{length}
use Rattle.relay_job.specs.Places.{content_at}
use Rattle.relay_job.specs.JobParts.{lines_of}
use Rattle.relay_job.proofs.SettingFacts.{ValuesScanned}
use Rattle.relay_job.proofs.setting_values.SettingValues.take_all.Given as goal

abbrev pub invariant-loop-line : goal.invariant-loop-line
invariant-loop-line l = ValuesScanned (lines_of (content_at l.fn.section)) (lines_of (content_at l.place)) l.self

abbrev pub decreases-loop-line : goal.decreases-loop-line
decreases-loop-line l = length l.place.rest.now
