use Rattle.std.proofs.Common.{◌≡◌, take}
use Rattle.relay_delivery.specs.Placings.{senders_of}
use Rattle.relay_delivery.specs.WrittenPaths.{paths_of}
use Rattle.relay_delivery.proofs.sender_order.sender_paths.Given as goal

abbrev pub invariant-loop-sender : goal.invariant-loop-sender
invariant-loop-sender l = l.paths.items ≡ paths_of (take l.sender-index (senders_of l.senders))
