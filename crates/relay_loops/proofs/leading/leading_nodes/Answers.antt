use Rattle.std.proofs.Common.{arith, filter}
use Rattle.std.proofs.lemmas.List.{with_items_is}
use Rattle.relay_loops.specs.Leading.{is_marked, AreLoopsMarked, HasLoops}
use Rattle.relay_loops.proofs.Trimming.{all_keep, marked_keeps, within_graph}
use Rattle.relay_loops.proofs.leading.leading_nodes.Goals as goal

pub loop-nodes-init : goal.loop-nodes-init
loop-nodes-init c =
    let g = c.args.graph.now in
    let reached = c.args.reached.now in
    let marked : AreLoopsMarked g reached c.in_ok-marks.marks.items = c.in_ok-marks.ensures in
    record {
      marked = marked;
      has = rw (c.in_ok-nodes.ensures, c.deref-2.ensures.value) (marked_keeps g reached c.requires c.in_ok-marks.marks.items reached marked (all_keep g reached c.requires));
    }

pub clear_ends-requires : goal.clear_ends-requires
clear_ends-requires c = rw c.deref-in-loop-nodes.ensures.value (within_graph c.args.graph.now c.args.reached.now c.requires c.loop-nodes.nodes.items c.loop-nodes.invariant.has)

pub loop-nodes-preserved : goal.loop-nodes-preserved
loop-nodes-preserved c =
    let g = c.args.graph.now in
    let reached = c.args.reached.now in
    let was : AreLoopsMarked g reached c.deref_mut.result.now = rw c.deref_mut.ensures.value c.loop-nodes.invariant.marked in
    let cleared : AreLoopsMarked g reached c.clear_ends.new.marks = c.clear_ends.ensures reached c.requires was in
    let kept = with_items_is c.loop-nodes.marks c.clear_ends.new.marks (omega arith) in
    let nodes = c.loop-nodes.nodes.items in
    let has : HasLoops g reached (filter (is_marked c.clear_ends.new.marks) nodes) = marked_keeps g reached c.requires c.clear_ends.new.marks nodes cleared c.loop-nodes.invariant.has in
    record {
      marked = rw kept cleared;
      has = rw (c.in_ok-nodes-2.ensures, c.deref-in-loop-nodes-2.ensures.value, c.deref-in-loop-nodes-3.ensures.value, kept) has;
    }
