use Rattle.std.proofs.Common.{◌≡◌, get_or}
use Rattle.std.proofs.lemmas.List.{get_or_default}
use Rattle.relay_pairs.specs.declared.reached.Reached.{Reached}
use Rattle.aliasplan_explain.proofs.ExpansionFacts.{all_lines, lines_more, no_lines}
use Rattle.aliasplan_explain.proofs.expanding.lines_of_pairs.Goals as goal

pub loop-pair-init : goal.loop-pair-init
loop-pair-init c = λ job. no_lines job c.args.graph.now c.args.with_senders c.args.pairs.now c.new-lines.result c.new-lines.ensures

pub loop-pair-preserved : goal.loop-pair-preserved
loop-pair-preserved c =
    let pairs = c.args.pairs.now in
    let i = c.loop-pair.pair-index in
    let first : Reached = record { sender = 0; node = 0 } in
    let pair = get_or pairs i first in
    let inside = c.loop-pair-test.true in
    let here : get_or pairs i pair ≡ pair = get_or_default pairs i pair first inside in
    λ job. lines_more job c.args.graph.now c.args.with_senders pairs c.loop-pair.lines c.add_pair.new.lines i pair inside here (c.loop-pair.invariant job) (c.in_ok-add_pair.ensures job)

pub returns : goal.returns
returns c = λ job. all_lines job c.args.graph.now c.args.with_senders c.args.pairs.now c.loop-pair.lines c.loop-pair.pair-index c.loop-pair-test.false (c.loop-pair.invariant job)
