use Rattle.std.proofs.Common.{◌≡◌, take}
use Rattle.relay_routes.proofs.hosts.Hosts.copy.Given as goal

abbrev pub invariant-loop-host : goal.invariant-loop-host
invariant-loop-host l = l.hosts ≡ take l.host-index l.host-items
