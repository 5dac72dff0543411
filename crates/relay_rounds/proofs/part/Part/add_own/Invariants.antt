use Rattle.std.proofs.Common.{take}
use Rattle.relay_rounds.specs.Shards.{HasTaken}
use Rattle.relay_rounds.proofs.part.Part.add_own.Given as goal

abbrev pub invariant-loop-key : goal.invariant-loop-key
invariant-loop-key l = HasTaken (take l.key-index l.keys) l.parts l.place l.fn.self l.self
