use Rattle.std.proofs.Common.{◌≡◌, take, sum_by, length}
use Rattle.relay_wire.proofs.plan.recipient_count.Given as goal

abbrev pub invariant-loop-planned : goal.invariant-loop-planned
invariant-loop-planned l = l.count ≡ sum_by (λ t. length t.to) (take l.planned-index l.transactions)
