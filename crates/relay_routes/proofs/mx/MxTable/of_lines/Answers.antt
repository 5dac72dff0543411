use Rattle.relay_routes.proofs.TableRead.{table_read}
use Rattle.relay_routes.proofs.mx.MxTable.of_lines.Goals as goal

pub returns : goal.returns
returns c = rw (c.of-2.ensures, c.in_ok-of.ensures) (table_read c.args.bytes.now c.args.lines c.requires)
