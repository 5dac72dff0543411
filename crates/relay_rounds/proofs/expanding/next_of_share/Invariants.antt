use Rattle.std.proofs.Common.{◌≡◌, take}
use Rattle.std.specs.Prelude.{flat_map}
use Rattle.relay_rounds.proofs.expanding.next_of_share.Given as goal

abbrev pub invariant-loop-key : goal.invariant-loop-key
invariant-loop-key g l = l.next.items ≡ flat_map (g.S.Steps.next_keys l.steps) (take l.key-index l.keys)
