use Rattle.relay_routes.proofs.TableFacts.{lines_start}
use Rattle.relay_routes.proofs.transport_table.TransportTable.parse.Goals as goal

pub loop-joined-init : goal.loop-joined-init
loop-joined-init c = lines_start c.args.bytes.now c.in_ok-lines.lines c.in_ok-table.table c.orphans.result.now c.in_ok-lines.ensures c.orphans.ensures c.in_ok-table.ensures
