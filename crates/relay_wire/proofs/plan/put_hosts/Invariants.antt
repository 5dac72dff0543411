use Rattle.std.proofs.Common.{◌≡◌, ◌++◌, take, map}
use Rattle.relay_wire.specs.PlanText.{lines_of, host_line}
use Rattle.relay_wire.proofs.plan.put_hosts.Given as goal

abbrev pub invariant-loop-host : goal.invariant-loop-host
invariant-loop-host l = l.out.items ≡ l.initial.out.items ++ lines_of (map host_line (take l.host-index l.hosts))
