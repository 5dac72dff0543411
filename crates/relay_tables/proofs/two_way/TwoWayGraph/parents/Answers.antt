use Rattle.std.proofs.Common.{◌∙◌, length}
use Rattle.relay_tables.proofs.Assembled.{parents_at}
use Rattle.relay_tables.proofs.two_way.TwoWayGraph.parents.Goals as goal

pub returns : goal.returns
returns c =
    let i = c.self.inside in
    rw (← c.self.view_is) (c.row.ensures ∙ parents_at (length i.graph.now.nodes) i.graph.now.children i.parents c.args.n c.self.invariant (rw (← c.self.view_is) at c.requires))
