use Rattle.std.proofs.Common.{◌≡◌, length, map, min, take}
use Rattle.relay_delivery.specs.Orders.{sender_of}
use Rattle.relay_delivery.specs.WrittenPaths.{paths_of}
use Rattle.relay_delivery.proofs.recipient_order.paths_len.Given as goal

abbrev pub invariant-loop-recipient : goal.invariant-loop-recipient
invariant-loop-recipient l = l.len ≡ min (length (paths_of (take l.recipient-index (map sender_of l.recipients)))) 0xffff_ffff_ffff_ffff
