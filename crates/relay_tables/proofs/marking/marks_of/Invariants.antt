use Rattle.std.proofs.Common.{◌≡◌, length, take}
use Rattle.relay_tables.specs.Marks.{AreMarksOf}
use Rattle.relay_tables.proofs.marking.marks_of.Given as goal

abbrev pub invariant-loop-domain : goal.invariant-loop-domain
invariant-loop-domain l = record {
  long : length l.marks ≡ 256;
  marked : AreMarksOf (take l.domain-index l.local.domains) l.marks;
}
