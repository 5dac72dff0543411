use Rattle.std.proofs.Common.{◌≡◌, ◌++◌, drop}
use Rattle.relay_routes.specs.Transports.{parent_keys}
use Rattle.relay_routes.specs.TableSteps.{dot_ends}
use Rattle.relay_routes.proofs.deciding.add_parents.Given as goal

-- the keys so far and the ends that are left make the keys of all parents
abbrev pub invariant-loop-place : goal.invariant-loop-place
invariant-loop-place l = l.keys.items ++ dot_ends (drop l.place l.domain) ≡ l.initial.keys.items ++ parent_keys l.domain
