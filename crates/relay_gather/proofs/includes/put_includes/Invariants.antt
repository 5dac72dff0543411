use Rattle.std.proofs.Common.{◌≡◌, ℕ, ◌+◌, ◌*◌, ◌-◌, ◌^◌, ◌≤◌, List, length}
use Rattle.relay_gather.specs.Source.{Tells}
use Rattle.relay_gather.specs.Queue.{HasSeen}
use Rattle.relay_gather.proofs.Following.{IsFollowing}
use Rattle.relay_gather.proofs.includes.put_includes.Given as goal

-- the include files before the place are followed
abbrev pub invariant-loop-place : goal.invariant-loop-place
invariant-loop-place g l = record {
  seen : HasSeen l.queue;
  alike : (p : List ℕ) → g.D.Source.answer l.source p ≡ g.D.Source.answer l.fn.source p;
  followed : Tells (g.D.Source.answer l.fn.source) → IsFollowing (g.D.Source.answer l.fn.source) l.first l.place l.queue.paths.items l.fn.gathered l.gathered;
  within : l.place ≤ length l.queue.paths.items;
}

-- A file takes room; where none is taken no path is added.
abbrev pub decreases-loop-place : goal.decreases-loop-place
decreases-loop-place g l = l.gathered.room * 2 ^ 64 + (length l.queue.paths.items - l.place)
