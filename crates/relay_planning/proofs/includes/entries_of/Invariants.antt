use Rattle.std.proofs.Common.{◌≡◌, map}
use Rattle.std.specs.List.{list_any}
use Rattle.relay_planning.specs.Delivery.{entry_of_include}
use Rattle.relay_planning.specs.Findings.{ReportsWhere}
use Rattle.relay_planning.specs.Includes.{include_in}
use Rattle.relay_planning.specs.Texts.{has_include_line}
use Rattle.relay_planning.proofs.includes.entries_of.Given as goal

abbrev pub invariant-loop-reading : goal.invariant-loop-reading
invariant-loop-reading g l = record {
  entries : l.entries.items ≡ map entry_of_include (map include_in l.yielded);
  lines : ReportsWhere l.initial.lines l.lines (λ q. list_any (has_include_line q) (map include_in l.yielded));
}
