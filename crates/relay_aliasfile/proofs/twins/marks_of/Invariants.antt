use Rattle.std.proofs.Common.{take}
use Rattle.relay_aliasfile.specs.Twins.{AreMarks}
use Rattle.relay_aliasfile.proofs.twins.marks_of.Given as goal

abbrev pub invariant-loop-hash : goal.invariant-loop-hash
invariant-loop-hash l = AreMarks l.slots (take l.hash-index l.hashes) l.marks.items
