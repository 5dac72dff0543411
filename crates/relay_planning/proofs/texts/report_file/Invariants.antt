use Rattle.std.proofs.Common.{take}
use Rattle.std.specs.List.{list_any}
use Rattle.std.specs.Str.{bytes_eq}
use Rattle.relay_planning.specs.Findings.{ReportsWhere}
use Rattle.relay_planning.specs.Texts.{file_line}
use Rattle.relay_planning.proofs.texts.report_file.Given as goal

abbrev pub invariant-loop-index : goal.invariant-loop-index
invariant-loop-index g l = ReportsWhere l.initial.lines l.lines (λ q. list_any (λ fault. bytes_eq q (file_line l.job_file fault)) (take l.index l.faults))
