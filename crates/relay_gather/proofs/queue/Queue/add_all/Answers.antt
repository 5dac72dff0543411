use Rattle.std.proofs.Common.{ap, ◌∙◌, arith}
use Rattle.relay_aliasfile.specs.DistinctTexts.{with_text}
use Rattle.relay_gather.proofs.Following.{added_more}
use Rattle.relay_gather.proofs.queue.Queue.add_all.Goals as goal

pub loop-path-preserved : goal.loop-path-preserved
loop-path-preserved c = record {
  seen = c.in_ok-add.ensures.seen;
  paths =
      c.in_ok-add.ensures.paths ∙ ap (λ p. with_text c.loop-path.self.paths.items p) c.as_bytes.ensures
      ∙ added_more c.args.self.now.paths.items c.loop-path.self.paths.items c.args.paths.now c.loop-path.path-index c.path-item.result (omega arith) c.path-item.is c.loop-path.invariant.paths;
}
