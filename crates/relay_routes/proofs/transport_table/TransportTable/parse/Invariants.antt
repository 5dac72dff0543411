use Rattle.std.proofs.Common.{◌≡◌, length}
use Rattle.relay_routes.specs.TableSteps.{with_lines}
use Rattle.relay_routes.specs.Transports.{transport_table_of}
use Rattle.relay_routes.proofs.transport_table.TransportTable.parse.Given as goal

-- the table so far, with the lines left, is that of all lines
abbrev pub invariant-loop-joined : goal.invariant-loop-joined
invariant-loop-joined l = with_lines l.table l.lines.lines ≡ transport_table_of l.bytes

abbrev pub decreases-loop-joined : goal.decreases-loop-joined
decreases-loop-joined l = length l.lines.lines
