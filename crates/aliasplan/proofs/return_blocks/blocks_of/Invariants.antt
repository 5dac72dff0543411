use Rattle.std.proofs.Common.{◌≡◌, length, take}
use Rattle.std.specs.Prelude.{All}
use Rattle.relay_text.specs.TextSets.{IsAscendingBy, text_cmp}
use Rattle.aliasplan.specs.ReturnLines.{blocks_from}
use Rattle.aliasplan.proofs.return_blocks.blocks_of.Given as goal

abbrev pub invariant-loop-lines : goal.invariant-loop-lines
invariant-loop-lines l = record {
  count : l.number ≡ length l.yielded;
  blocks : l.blocks.items ≡ blocks_from (take l.number l.graph.senders) l.yielded;
  ascending : All (IsAscendingBy text_cmp) l.yielded;
}
