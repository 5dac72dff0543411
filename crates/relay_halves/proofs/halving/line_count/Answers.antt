use Rattle.std.proofs.Common.{◌∙◌}
use Rattle.relay_halves.proofs.HalvedLines.{lines_counted}
use Rattle.relay_halves.proofs.halving.line_count.Goals as goal

pub returns-clause-lines : goal.returns-clause-lines
returns-clause-lines c = c.feed_count.ensures.feeds ∙ lines_counted c.args.text.now c.requires
