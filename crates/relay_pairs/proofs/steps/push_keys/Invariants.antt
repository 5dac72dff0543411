use Rattle.std.proofs.Common.{◌≡◌, ◌+◌, ◌*◌, ◌^◌, ◌++◌, take}
use Rattle.std.specs.Prelude.{map}
use Rattle.relay_pairs.proofs.steps.push_keys.Given as goal

abbrev pub invariant-loop-node : goal.invariant-loop-node
invariant-loop-node l = l.keys.items ≡ l.fn.keys.items ++ map (λ n. l.sender * 2 ^ 24 + n) (take l.node-index l.nodes)
