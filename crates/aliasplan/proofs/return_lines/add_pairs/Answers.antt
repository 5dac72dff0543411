use Rattle.std.proofs.Common.{◌≡◌, get_or}
use Rattle.std.proofs.lemmas.List.{get_or_default}
use Rattle.relay_pairs.specs.declared.reached.Reached.{Reached}
use Rattle.aliasplan.proofs.ReturnSteps.{pairs_more}
use Rattle.aliasplan.proofs.return_lines.add_pairs.Goals as goal

pub loop-pair-preserved : goal.loop-pair-preserved
loop-pair-preserved c =
    let pairs = c.args.pairs.now in
    let i = c.loop-pair.pair-index in
    let first : Reached = record { sender = 0; node = 0 } in
    let pair = get_or pairs i first in
    let inside = c.loop-pair-test.true in
    let here : get_or pairs i pair ≡ pair = get_or_default pairs i pair first inside in
    pairs_more c.args.graph.now c.args.undelivered.now c.args.recipient.now c.args.lists.now.items c.loop-pair.lists.items c.add_pair.new.lists.items pairs i pair inside here c.loop-pair.invariant c.in_ok-add_pair.ensures
