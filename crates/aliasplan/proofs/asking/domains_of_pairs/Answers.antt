use Rattle.aliasplan.proofs.DomainFacts.{domains_are}
use Rattle.relay_wire.proofs.Results.{if_ok_both}
use Rattle.aliasplan.proofs.asking.domains_of_pairs.Goals as goal

pub returns : goal.returns
returns c =
    if_ok_both c.into_seq.result c.into_seq.ensures.all c.into_seq.ensures.ascending
    (λ domains same sorted. domains_are c.args.job.now c.args.graph.now c.deref.result.now (rw (c.deref.ensures.value) c.in_ok-nodes.ensures.reached) c.in_ok-domains.domains domains same sorted c.in_ok-domains.ensures)
