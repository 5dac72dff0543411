use Rattle.std.proofs.Common.{◌≡◌, ◌++◌}
use Rattle.relay_routes.proofs.hosts.Hosts.append.Given as goal

abbrev pub invariant-loop-host : goal.invariant-loop-host
invariant-loop-host l = l.self ≡ l.initial.self ++ l.yielded
