use Rattle.std.proofs.Common.{◌≡◌, take}
use Rattle.relay_delivery.specs.Placings.{senders_of}
use Rattle.relay_planning.proofs.addresses.senders_of.Given as goal

abbrev pub invariant-loop-number : goal.invariant-loop-number
invariant-loop-number l = senders_of l.senders.items ≡ take l.number l.graph.senders
