use Rattle.relay_planning.proofs.ReportFacts.{on_ok_given}
use Rattle.relay_planning.proofs.lookup.read_settings.Goals as goal

pub returns-clause-lines : goal.returns-clause-lines
returns-clause-lines g c = on_ok_given c.table_settings_of.result c.in_ok-report_routes.ensures
