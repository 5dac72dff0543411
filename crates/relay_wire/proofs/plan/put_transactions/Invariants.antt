use Rattle.std.proofs.Common.{◌≡◌, ◌++◌, take}
use Rattle.std.specs.List.{enumerate_from}
use Rattle.relay_wire.specs.PlanText.{numbered_texts, transaction_text}
use Rattle.relay_wire.proofs.plan.put_transactions.Given as goal

abbrev pub invariant-loop-index : goal.invariant-loop-index
invariant-loop-index l = l.out.items ≡ l.initial.out.items ++ numbered_texts transaction_text (take l.index (enumerate_from l.number l.transactions))
