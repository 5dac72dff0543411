use Rattle.std.proofs.Common.{◌∙◌, ap, arith, length-drop, length}
use Rattle.relay_rings.specs.Walks.{walk_rest}
use Rattle.relay_rings.proofs.CutLemmas.{cut_more, cut_end}
use Rattle.relay_rings.proofs.batching.cut_ring.Goals as goal

pub loop-left-preserved : goal.loop-left-preserved
loop-left-preserved c =
    let l = c.loop-left in
    let rest = walk_rest l.walk in
    let later = walk_rest c.next_items.new.walk in
    record {
      long = omega (arith, ap length c.in_ok-items.ensures.rest, length-drop c.min-count.result rest, c.min-count.ensures, l.invariant.long);
      made = cut_more c.args.key c.args.limit rest c.in_ok-items.items later l.transactions.items c.push.new.self.items l.left c.min-count.result c.requires.limit l.invariant.long c.loop-left-test.true c.min-count.ensures c.in_ok-items.ensures.taken c.in_ok-items.ensures.rest c.in_ok-push.ensures.items ∙ l.invariant.made;
    }

pub returns : goal.returns
returns c =
    let l = c.loop-left in
    cut_end c.args.key c.args.limit (walk_rest l.walk) l.transactions.items l.left c.requires.limit l.invariant.long c.loop-left-test.false ∙ l.invariant.made
