use Rattle.relay_wire.proofs.Results.{if_ok_both}
use Rattle.aliasplan_explain.proofs.ExpansionFacts.{expansion_is}
use Rattle.aliasplan_explain.proofs.expanding.lines_reached.Goals as goal

pub lines_of_pairs-requires : goal.lines_of_pairs-requires
lines_of_pairs-requires c = c.requires.in_graph

pub returns : goal.returns
returns c =
    let job = c.args.job.now in
    if_ok_both c.into_seq.result c.into_seq.ensures.all c.into_seq.ensures.ascending
    (λ lines same sorted. expansion_is job c.args.graph.now c.args.with_senders c.args.pairs.now c.requires c.in_ok-lines.lines lines same sorted (c.in_ok-lines.ensures job))
