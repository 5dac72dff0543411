use Rattle.std.proofs.Common.{◌≡◌, map, take}
use Rattle.relay_delivery.specs.Orders.{sender_of}
use Rattle.relay_delivery.specs.WrittenPaths.{paths_of}
use Rattle.relay_delivery.proofs.recipient_order.recipient_paths.Given as goal

abbrev pub invariant-loop-recipient : goal.invariant-loop-recipient
invariant-loop-recipient l = l.paths.items ≡ paths_of (take l.recipient-index (map sender_of l.recipients))
