use Rattle.std.specs.Io.KnownBytes.{Keeps}
use Rattle.aliasplan.proofs.device.write_again.Given as goal

-- interrupted writes took nothing
abbrev pub invariant-loop : goal.invariant-loop
invariant-loop g l = Keeps (g.W.Write.contents l.initial.writer) (g.W.Write.contents l.writer)
