use Rattle.std.proofs.Common.{length}
use Rattle.relay_gather.proofs.Putting.{HasPut}
use Rattle.relay_gather.proofs.gathered.Gathered.put_body.Given as goal

-- the lines that were passed are put
abbrev pub invariant-loop-line : goal.invariant-loop-line
invariant-loop-line l = HasPut l.fn.file l.rest l.fn.self l.self

abbrev pub decreases-loop-line : goal.decreases-loop-line
decreases-loop-line l = length l.rest
