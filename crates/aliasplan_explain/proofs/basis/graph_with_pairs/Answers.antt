use Rattle.std.proofs.Common.{◌≤◌, length, Vec, Global}
use Rattle.std.proofs.lemmas.Result.{on_ok_weaker}
use Rattle.relay_pairs.specs.Pairs.{ArePairs}
use Rattle.relay_pairs.specs.declared.reached.Reached.{Reached}
use Rattle.relay_tables.specs.GraphParts.{GraphParts}
use Rattle.relay_job.specs.declared.fault.RunFault.{RunFault}
use Rattle.relay_planning.specs.Delivery.{IsJobGraph, IsJobPart}
use Rattle.relay_planning.specs.Limits.{IsRefused, IsWithin}
use Rattle.relay_planning.specs.Reaching.{AreReachedPairs}
use Rattle.aliasplan_explain.proofs.PairFacts.{both_are, fault_is, first_is, second_is}
use Rattle.aliasplan_explain.proofs.basis.graph_with_pairs.Goals as goal

pub returns-in-Ok-clause-graph : goal.returns-in-Ok-clause-graph
returns-in-Ok-clause-graph g c = first_is c.in-Ok.graph c.pairs_of-pairs.result c.with_or_fault.result (λ (g : GraphParts). IsJobGraph c.args.job.now g) c.with_or_fault.ensures.both c.in-Ok.ensures.graph

pub returns-in-Ok-clause-part : goal.returns-in-Ok-clause-part
returns-in-Ok-clause-part g c = first_is c.in-Ok.graph c.pairs_of-pairs.result c.with_or_fault.result (λ (g : GraphParts). IsJobPart c.args.job.now g) c.with_or_fault.ensures.both c.in-Ok.ensures.part

pub returns-in-Ok-clause-pairs : goal.returns-in-Ok-clause-pairs
returns-in-Ok-clause-pairs g c = both_are c.in-Ok.graph c.pairs_of-pairs.result c.with_or_fault.result (λ (g : GraphParts) (ps : Vec Reached Global). ArePairs g ps.items) c.with_or_fault.ensures.both c.pairs_of-pairs.ensures.pairs

pub returns-in-Ok-clause-reached : goal.returns-in-Ok-clause-reached
returns-in-Ok-clause-reached g c =
    both_are c.in-Ok.graph c.pairs_of-pairs.result c.with_or_fault.result (λ (g : GraphParts) (ps : Vec Reached Global). AreReachedPairs c.args.job.now g ps.items) c.with_or_fault.ensures.both c.pairs_of-pairs.ensures.reached

pub returns-in-Ok-clause-few : goal.returns-in-Ok-clause-few
returns-in-Ok-clause-few g c = second_is c.in-Ok.graph c.pairs_of-pairs.result c.with_or_fault.result (λ (ps : Vec Reached Global). length ps.items ≤ 16777216) c.with_or_fault.ensures.both c.pairs_of-pairs.ensures.few

pub returns-in-Ok-clause-within : goal.returns-in-Ok-clause-within
returns-in-Ok-clause-within g c =
    second_is c.in-Ok.graph c.pairs_of-pairs.result c.with_or_fault.result (λ (ps : Vec Reached Global). IsWithin c.args.crew.now.limits c.args.job.now) c.with_or_fault.ensures.both
    (on_ok_weaker c.pairs_of-pairs.result (λ few. record { names = c.in-Ok.ensures.names; owners = c.in-Ok.ensures.owners; pairs = few }) c.pairs_of-pairs.ensures.at_most)

pub returns-in-Ok-clause-refused : goal.returns-in-Ok-clause-refused
returns-in-Ok-clause-refused g c = fault_is c.pairs_of-pairs.result c.with_or_fault.result (λ (fault : RunFault). IsRefused c.args.crew.now.limits c.args.job.now fault) c.with_or_fault.ensures.fault c.pairs_of-pairs.ensures.refused
