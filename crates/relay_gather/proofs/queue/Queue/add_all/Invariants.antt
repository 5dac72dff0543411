use Rattle.std.proofs.Common.{◌≡◌, take}
use Rattle.relay_aliasfile.specs.DistinctTexts.{with_texts}
use Rattle.relay_gather.specs.Queue.{HasSeen}
use Rattle.relay_gather.proofs.queue.Queue.add_all.Given as goal

-- the paths so far are added
abbrev pub invariant-loop-path : goal.invariant-loop-path
invariant-loop-path l = record {
  seen : HasSeen l.self;
  paths : l.self.paths.items ≡ with_texts l.fn.self.paths.items (take l.path-index l.paths);
}
