use Rattle.std.proofs.Common.{◌≡◌, map, take}
use Rattle.relay_routes.specs.declared.fault.FaultKind.TheVariants.{BadLine}
use Rattle.relay_routes.specs.Transports.{fault}
use Rattle.relay_routes.proofs.transport_table.TransportTable.without_lines.Given as goal

abbrev pub invariant-loop-number : goal.invariant-loop-number
invariant-loop-number l = l.faults.items ≡ map (λ number. fault number BadLine) (take l.number-index l.orphans)
