use Rattle.std.proofs.Common.{◌∙◌}
use Rattle.relay_tables.proofs.reaching.reach_all.Goals as goal

pub nodes-preserved : goal.nodes-preserved
nodes-preserved c =
    let l = c.nodes in
    record {
      reach = c.in_ok-reach_more.ensures.reach _ _ l.invariant.reach;
      limit = c.in_ok-reach_more.ensures.limit ∙ l.invariant.limit;
    }
