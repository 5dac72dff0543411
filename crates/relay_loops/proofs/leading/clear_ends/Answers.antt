use Rattle.std.proofs.Common.{get_or, sym, ◌∙◌}
use Rattle.relay_loops.specs.Leading.{AreLoopsMarked}
use Rattle.relay_loops.proofs.Trimming.{cleared}
use Rattle.relay_loops.proofs.leading.clear_ends.Goals as goal
use Rattle.relay_loops.proofs.leading.clear_ends.Goals.{then-is_marked+then-not-leads_to_marked, else-is_marked}

pub loop-node-preserved : goal.loop-node-preserved
loop-node-preserved c = λ part closed before.
    let known : AreLoopsMarked c.args.graph.now part c.loop-node.marks = c.loop-node.invariant part closed before in
    elim c.if-is_marked.branch [
      | then-is_marked+then-not-leads_to_marked w ↦
          rw w.marks-is
          (cleared c.args.graph.now part closed c.loop-node.marks (get_or c.args.nodes.now c.loop-node.node-index 0) known (sym w.leads_to_marked.ensures ∙ w.if-not-leads_to_marked.true))
      | else-is_marked w ↦ rw w.marks-is known
    ]
