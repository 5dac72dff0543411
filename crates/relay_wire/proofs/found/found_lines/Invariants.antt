use Rattle.std.proofs.Common.{◌≡◌, map}
use Rattle.std.specs.List.{All}
use Rattle.relay_wire.specs.Findings.{finding_text_of}
use Rattle.relay_wire.specs.FoundLines.{lines_beside, HasOwnLine}
use Rattle.relay_wire.proofs.found.found_lines.Given as goal

abbrev pub invariant-loop-finding : goal.invariant-loop-finding
invariant-loop-finding l = record {
  lines : lines_beside l.found.items ≡ map finding_text_of l.yielded;
  own : All HasOwnLine l.found.items;
}
