use Rattle.std.proofs.Common.{rules, ◌≡◌, length}
use Rattle.relay_job.proofs.LineFeeds.{group_counted}
use Rattle.relay_job.proofs.line_feeds.group_feeds.Goals as goal

pub returns : goal.returns
returns c = let long : length c.args.group ≡ 64 = search rules in group_counted c.args.group long
