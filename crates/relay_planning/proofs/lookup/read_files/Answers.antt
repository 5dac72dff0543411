use Rattle.std.proofs.Common.{◌||◌, ◌∙◌, List, ap}
use Rattle.std.specs.List.{list_any}
use Rattle.std.proofs.lemmas.Result.{on_ok_weaker}
use Rattle.relay_text.specs.Bytes.{has_text}
use Rattle.relay_job.specs.declared.job.JobInclude.{JobInclude}
use Rattle.relay_planning.specs.Findings.{ReportsWhere}
use Rattle.relay_planning.specs.Texts.{has_include_line}
use Rattle.relay_planning.proofs.ReportFacts.{reports_names}
use Rattle.relay_planning.proofs.lookup.read_files.Goals as goal

pub returns-clause-lines : goal.returns-clause-lines
returns-clause-lines g c =
    let parsed = c.args.parsed.now in
    let middle = c.report_files.new.lines in
    let new = c.read_includes.new.lines in
    on_ok_weaker {P = ReportsWhere middle new (λ q. list_any (has_include_line q) c.as_slice.result.now)} c.read_includes.result
    (λ second.
    reports_names parsed.aliases.faults parsed.mailboxes.faults c.args.job.now.includes c.args.lines.now middle new c.in_ok-report_files.ensures
    (λ q. second q ∙ ap (λ (includes : List JobInclude). has_text middle q || list_any (has_include_line q) includes) c.as_slice.ensures))
    c.read_includes.ensures.lines
