use Rattle.relay_planning.proofs.ParsedFacts.{AreFiles, AreTables, both_beside, parsed_of_both}
use Rattle.relay_planning.proofs.parsed.Parsed.by_crew.Goals as goal

pub returns : goal.returns
returns g c =
    let aliases = c.as_bytes-aliases.result.now in
    let mailboxes = c.as_bytes-mailboxes.result.now in
    let transport = c.as_bytes-transport.result.now in
    let mx = c.as_bytes-mx.result.now in
    parsed_of_both c.args.job.now aliases mailboxes transport mx
    (record { aliases_are = c.as_bytes-aliases.ensures; mailboxes_are = c.as_bytes-mailboxes.ensures; transport_is = c.as_bytes-transport.ensures; mx_is = c.as_bytes-mx.ensures })
    c.beside.result c.of_both.result c.of_both.ensures
    (both_beside c.beside.result c.in_ok-files.files c.route_tables.result (AreFiles aliases mailboxes) (AreTables transport mx) c.beside.ensures c.in_ok-files.ensures c.route_tables.ensures)
