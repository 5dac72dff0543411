use Rattle.std.proofs.Common.{◌≡◌, ℕ, false, slice_index, sym, ◌∙◌, arith}
use borrow.Author.Count.{below_more}
use Rattle.relay_loops.specs.Naming.{is_fresh}
use Rattle.relay_loops.proofs.Naming.{named_all}
use Rattle.relay_loops.proofs.pivots.pivot_order.Goals as goal
use Rattle.relay_loops.proofs.pivots.pivot_order.Goals.{then-is_fresh+in_ok-walk_from, else-is_fresh}

pub loop-node-preserved : goal.loop-node-preserved
loop-node-preserved c =
    let reached = c.args.reached.now in
    elim c.if-is_fresh.branch [
      | then-is_fresh+in_ok-walk_from w ↦
          rw w.walk-is
          (record {
            path = w.in_ok-walk_from.ensures.path;
            sized = w.in_ok-walk_from.ensures.onward.sized ∙ c.loop-node.invariant.sized;
            kept = λ n among. w.in_ok-walk_from.ensures.onward.kept n (c.loop-node.invariant.kept n among);
            passed = below_more (λ (k : ℕ). is_fresh w.walk_from.new.self.fresh.items (slice_index reached k) ≡ false) c.loop-node.node-index (λ k below. w.in_ok-walk_from.ensures.onward.fewer (slice_index reached k) (c.loop-node.invariant.passed k below)) w.in_ok-walk_from.ensures.left;
          })
      | else-is_fresh w ↦
          rw w.walk-is
          (record {
            path = c.loop-node.invariant.path;
            sized = c.loop-node.invariant.sized;
            kept = c.loop-node.invariant.kept;
            passed = below_more (λ (k : ℕ). is_fresh c.loop-node.walk.fresh.items (slice_index reached k) ≡ false) c.loop-node.node-index c.loop-node.invariant.passed (sym w.if-is_fresh.ensures);
          })
    ]

pub returns : goal.returns
returns c = λ n among.
    rw c.reverse.ensures.items (named_all c.loop-node.walk.fresh.items c.loop-node.walk.path.items c.loop-node.walk.order.items c.args.reached.now c.loop-node.node-index (omega arith) c.loop-node.invariant.path c.loop-node.invariant.kept c.loop-node.invariant.passed n among)
