use Rattle.relay_tables.proofs.LocalParts.{address-at_origin}
use Rattle.relay_tables.proofs.tables.Tables.at_origin.Goals as goal

pub new-requires : goal.new-requires
new-requires c = rw c.as_bytes.ensures (address-at_origin c.args.local.now c.self.inside.local.origin c.requires c.self.invariant.lawful.origin)
