use Rattle.std.proofs.Common.{◌≡◌, ◌++◌, map}
use Rattle.relay_routes.proofs.hosts.Hosts.each_followed_by.Given as goal

-- the hosts so far and those that are left make the hosts of all
abbrev pub invariant-loop-host : goal.invariant-loop-host
invariant-loop-host l = l.hosts ++ map (λ host. host ++ l.text) l.host-iterator ≡ map (λ host. host ++ l.text) l.fn.self
