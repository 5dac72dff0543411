use Rattle.relay_planning.specs.Listing.{place_at}
use Rattle.relay_planning.specs.Entries.{IsTargetLine}
use Rattle.relay_planning.proofs.EntryFacts.{one_more, none_again, at_start, at_end}
use Rattle.relay_planning.proofs.entries.report_targets.Goals as goal

pub loop-index-init : goal.loop-index-init
loop-index-init g c = λ q. at_start (IsTargetLine c.args.graph.now (place_at c.args.listing)) q _

pub loop-index-preserved : goal.loop-index-preserved
loop-index-preserved g c =
    λ q. one_more (IsTargetLine c.args.graph.now (place_at c.args.listing)) q c.args.targets.now c.loop-index.index _ _ _
    c.loop-index-test.true (c.loop-index.invariant q) (c.in_ok-report_target.ensures q)

pub loop-index-preserved-then-targets-index : goal.loop-index-preserved-then-targets-index
loop-index-preserved-then-targets-index g c =
    λ q. none_again (IsTargetLine c.args.graph.now (place_at c.args.listing)) q c.args.targets.now c.loop-index.index _ _
    c.if-index-gt0.true c.loop-index-test.true c.if-targets-index.true (c.loop-index.invariant q)

pub returns : goal.returns
returns g c = λ q. at_end (IsTargetLine c.args.graph.now (place_at c.args.listing)) q c.args.targets.now c.loop-index.index _ _ c.loop-index-test.false (c.loop-index.invariant q)
