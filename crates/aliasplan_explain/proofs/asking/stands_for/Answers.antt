use Rattle.relay_tables.proofs.LocalParts.{is_local_part-address}
use Rattle.aliasplan_explain.proofs.asking.stands_for.Goals as goal

pub named-requires-clause-local : goal.named-requires-clause-local
named-requires-clause-local c = rw c.local.ensures.value (is_local_part-address c.in-Name.address c.local.ensures.valid)

pub named-requires-then-is_local-clause-local : goal.named-requires-then-is_local-clause-local
named-requires-then-is_local-clause-local c =
    rw c.local-then-is_local.ensures.value (is_local_part-address c.in-Address.address c.local-then-is_local.ensures.valid)
