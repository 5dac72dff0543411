use Rattle.std.proofs.Common.{◌||◌, ◌∙◌, List, ap}
use Rattle.std.specs.List.{list_any}
use Rattle.std.specs.Str.{bytes_eq}
use Rattle.std.proofs.lemmas.Result.{on_ok_weaker}
use Rattle.relay_text.specs.Bytes.{has_text}
use Rattle.relay_aliasfile.specs.declared.fault.LineFault.{LineFault}
use Rattle.relay_planning.specs.declared.job_file.JobFile.TheVariants.{Aliases, Mailboxes}
use Rattle.relay_planning.specs.Findings.{ReportsWhere}
use Rattle.relay_planning.specs.Texts.{file_line, is_file_line}
use Rattle.relay_planning.proofs.ReportFacts.{reports_two}
use Rattle.relay_planning.proofs.lookup.report_files.Goals as goal

pub returns : goal.returns
returns g c =
    let old = c.args.lines.now in
    let middle = c.report_file.new.lines in
    let new = c.report_file-2.new.lines in
    let mailboxes = c.as_slice-mailboxes.result.now in
    on_ok_weaker {P = ReportsWhere middle new (λ p. list_any (λ fault. bytes_eq p (file_line Mailboxes fault)) c.as_slice-mailboxes.result.now)} c.report_file-2.result
    (λ second q.
    reports_two old middle new
    (λ p. list_any (λ fault. bytes_eq p (file_line Aliases fault)) c.as_slice-aliases.result.now)
    (λ p. list_any (λ fault. bytes_eq p (file_line Mailboxes fault)) c.as_slice-mailboxes.result.now)
    c.in_ok-report_file.ensures second q
    ∙ ap (λ (f : List LineFault). has_text old q || is_file_line f mailboxes q) c.as_slice-aliases.ensures
    ∙ ap (λ (f : List LineFault). has_text old q || is_file_line c.args.parsed.now.aliases.faults f q) c.as_slice-mailboxes.ensures)
    c.report_file-2.ensures
