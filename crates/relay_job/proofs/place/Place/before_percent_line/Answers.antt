use Rattle.std.proofs.Common.{take, refl}
use Rattle.relay_job.proofs.PercentLineFacts.{lines_behind}
use Rattle.relay_job.proofs.place.Place.before_percent_line.Goals as goal

pub returns-clause-lines : goal.returns-clause-lines
returns-clause-lines c =
    lines_behind c.args.self.now.line _ c.args.self.now.rest.now c.percent_line_place.result (take c.percent_line_place.result c.args.self.now.rest.now) c.split_lines.result.1.rest.now
    (record { len = c.percent_line_place.ensures.len; is_front = refl; is_rest = c.split_lines.ensures.behind.1 })
    c.split_lines.ensures.behind.0
