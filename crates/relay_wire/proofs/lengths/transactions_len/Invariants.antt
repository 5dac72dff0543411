use Rattle.std.proofs.Common.{◌≡◌, length, take}
use Rattle.std.specs.List.{enumerate_from}
use Rattle.relay_wire.specs.Lengths.{saturated}
use Rattle.relay_wire.specs.PlanText.{numbered_texts, transaction_text}
use Rattle.relay_wire.proofs.lengths.transactions_len.Given as goal

abbrev pub invariant-loop-index : goal.invariant-loop-index
invariant-loop-index l = l.len ≡ saturated (length (numbered_texts transaction_text (take l.index (enumerate_from l.number l.transactions))))
