use Rattle.std.proofs.Common.{◌≡◌, map, take}
use Rattle.std.specs.List.{list_any}
use Rattle.relay_planning.specs.Delivery.{entry_of_include}
use Rattle.relay_planning.specs.Findings.{ReportsWhere}
use Rattle.relay_planning.specs.Texts.{has_include_line}
use Rattle.relay_planning.proofs.includes.read_includes.Given as goal

abbrev pub invariant-loop-include : goal.invariant-loop-include
invariant-loop-include g l = record {
  entries : l.entries.items ≡ map entry_of_include (take l.include-index l.includes);
  lines : ReportsWhere l.initial.lines l.lines (λ q. list_any (has_include_line q) (take l.include-index l.includes));
}
