use Rattle.std.proofs.Common.{◌≡◌, All, map, take}
use Rattle.relay_trails.specs.Chains.{senders_of}
use Rattle.aliasplan_explain.specs.Chains.{chain_sender, IsChainTo}
use Rattle.aliasplan_explain.proofs.chains.lines_of.Given as goal

abbrev pub invariant-loop-found : goal.invariant-loop-found
invariant-loop-found g l = record {
  each : All (IsChainTo l.grounds.job.now l.grounds.recipient_lines.now l.sought.node) l.lines.items;
  senders : map chain_sender l.lines.items ≡ senders_of l.grounds.basis.now.graph (take l.found-index l.sought.found.items);
}
