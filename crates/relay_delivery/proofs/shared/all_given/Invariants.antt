use Rattle.std.proofs.Common.{◌≡◌, map, Ok}
use Rattle.relay_delivery.proofs.shared.all_given.Given as goal

abbrev pub invariant-loop-share : goal.invariant-loop-share
invariant-loop-share g l = map (λ text. Ok text) l.all.items ≡ l.yielded
