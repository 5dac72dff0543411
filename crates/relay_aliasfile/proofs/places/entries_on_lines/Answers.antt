use Rattle.relay_aliasfile.proofs.EntryLines.{entry_has_line, lines_rise}
use Rattle.relay_aliasfile.proofs.places.entries_on_lines.Goals as goal

pub returns-clause-there : goal.returns-clause-there
returns-clause-there c = entry_has_line

pub returns-clause-ascending : goal.returns-clause-ascending
returns-clause-ascending c = lines_rise
