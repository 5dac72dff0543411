use Rattle.relay_tables.proofs.LocalParts.{address-at_origin, is_local_part-address}
use Rattle.aliasplan_explain.proofs.expanding.recipient_for.Goals as goal

pub new-requires : goal.new-requires
new-requires c =
    let name = c.in-Name.address in
    rw c.local.ensures.value (address-at_origin name.local c.args.origin.now (is_local_part-address name c.local.ensures.valid) c.requires)
