use Rattle.std.proofs.Common.{◌||◌, ◌∙◌, List, ap}
use Rattle.std.specs.List.{list_any}
use Rattle.std.specs.Str.{bytes_eq}
use Rattle.std.proofs.lemmas.Result.{on_ok_weaker}
use Rattle.relay_text.specs.Bytes.{has_text}
use Rattle.relay_routes.specs.declared.fault.LineFault.{LineFault}
use Rattle.relay_planning.specs.declared.table.Table.TheVariants.{Transport, Mx}
use Rattle.relay_planning.specs.Findings.{ReportsWhere}
use Rattle.relay_planning.specs.Texts.{table_line, is_route_line}
use Rattle.relay_planning.proofs.ReportFacts.{reports_two}
use Rattle.relay_planning.proofs.lookup.report_routes.Goals as goal

pub returns : goal.returns
returns g c =
    let old = c.args.lines.now in
    let middle = c.report_table.new.lines in
    let new = c.report_table-2.new.lines in
    on_ok_weaker {P = ReportsWhere middle new (λ p. list_any (λ fault. bytes_eq p (table_line Mx fault)) c.faults-2.result.now)} c.report_table-2.result
    (λ second q.
    reports_two old middle new
    (λ p. list_any (λ fault. bytes_eq p (table_line Transport fault)) c.faults.result.now)
    (λ p. list_any (λ fault. bytes_eq p (table_line Mx fault)) c.faults-2.result.now)
    c.in_ok-report_table.ensures second q
    ∙ ap (λ (f : List LineFault). has_text old q || is_route_line f c.faults-2.result.now q) c.faults.ensures
    ∙ ap (λ (f : List LineFault). has_text old q || is_route_line c.args.transports.now.faults f q) c.faults-2.ensures)
    c.report_table-2.ensures
