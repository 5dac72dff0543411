use Rattle.std.proofs.Common.{◌≡◌, take}
use Rattle.relay_rings.specs.Batches.{keys_of}
use Rattle.relay_rings.proofs.batching.distinct_keys.Given as goal

abbrev pub invariant-loop-p : goal.invariant-loop-p
invariant-loop-p l = l.keys.items ≡ keys_of (take l.p-index l.placed)
