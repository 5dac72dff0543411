use Rattle.relay_planning.specs.Findings.{ReportsWhere}
use Rattle.relay_planning.specs.Texts.{is_name_line, is_route_line, has_fault_line}
use Rattle.relay_planning.proofs.ReportFacts.{on_ok_both, reports_faults}
use Rattle.relay_planning.proofs.lookup.Lookup.read_by.Goals as goal

pub returns-clause-lines : goal.returns-clause-lines
returns-clause-lines g c =
    let job = c.args.job.now in
    let parsed = c.in_ok-parsed.parsed in
    let middle = c.read_files_by-includes.new.lines in
    let new = c.of.new.lines in
    on_ok_both
    {P = ReportsWhere c.args.lines.now middle (is_name_line parsed.aliases.faults parsed.mailboxes.faults job.includes)}
    {Q = ReportsWhere middle new (is_route_line parsed.transports.faults parsed.exchanges.faults)}
    {S = ReportsWhere c.args.lines.now new (has_fault_line job)}
    c.of.result c.read_files_by-includes.result c.of.ensures.read c.read_files_by-includes.ensures.lines c.of.ensures.lines
    (reports_faults job parsed c.args.lines.now middle new c.in_ok-parsed.ensures)
