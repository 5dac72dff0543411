use Rattle.std.proofs.Common.{◌≡◌, ◌++◌, take}
use Rattle.relay_planning.proofs.routing.push_copies.Given as goal

abbrev pub invariant-loop-text : goal.invariant-loop-text
invariant-loop-text l = l.names.items ≡ l.initial.names.items ++ take l.text-index l.texts
