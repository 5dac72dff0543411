use Rattle.std.proofs.Common.{◌+◌, ap}
use Rattle.relay_job.proofs.PlaceCuts.{lines_cut}
use Rattle.relay_job.proofs.place.Place.split_lines.Goals as goal

pub returns-clause-lines : goal.returns-clause-lines
returns-clause-lines c =
    lines_cut c.args.self.now.line _ c.args.len c.args.self.now.rest.now c.split_at.result.0.now c.split_at.result.1.now c.split_at.ensures.front c.split_at.ensures.back c.requires.begins
    (ap (λ n. c.args.self.now.line + n) c.line_feeds.ensures)
