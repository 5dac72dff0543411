use Rattle.std.proofs.Common.{◌≡◌, ◌+◌, length}
use Rattle.relay_job.proofs.LineFeeds.{feeds}
use Rattle.relay_job.proofs.line_feeds.line_feeds.Given as goal

-- the LFs so far
abbrev pub invariant-loop-group : goal.invariant-loop-group
invariant-loop-group l = l.count + feeds l.rest ≡ feeds l.bytes

abbrev pub decreases-loop-group : goal.decreases-loop-group
decreases-loop-group l = length l.rest
