use Rattle.std.proofs.Common.{◌≡◌, drop}
use Rattle.relay_routes.specs.Transports.{found_result, parent_keys}
use Rattle.relay_routes.specs.TableSteps.{dot_ends}
use Rattle.relay_routes.proofs.transport_table.TransportTable.found_at_parent.Given as goal

-- what the ends that are left give is what all of them give
abbrev pub invariant-loop-place : goal.invariant-loop-place
invariant-loop-place l = found_result l.self.entries (dot_ends (drop l.place l.domain)) ≡ found_result l.self.entries (parent_keys l.domain)
