use Rattle.std.proofs.Common.{◌≡◌, All, map}
use Rattle.aliasplan_explain.specs.Endings.{IsEnding}
use Rattle.aliasplan_explain.specs.Chains.{chain_sender, IsChainTo}
use Rattle.aliasplan_explain.specs.Tellings.{told_sender, IsToldFor}
use Rattle.aliasplan_explain.proofs.telling.told_of_all.Given as goal

abbrev pub invariant-loop-chain : goal.invariant-loop-chain
invariant-loop-chain l = record {
  ending : IsEnding l.grounds.job.now l.plan l.node l.ending;
  rest : All (IsChainTo l.grounds.job.now l.grounds.recipient_lines.now l.node) l.chain-iterator.rest.items;
  each : All (IsToldFor l.grounds.job.now l.plan l.grounds.recipient_lines.now l.node) l.told.items;
  senders : map told_sender l.told.items ≡ map chain_sender l.yielded;
}
