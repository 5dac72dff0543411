use Rattle.std.proofs.Common.{length, ap}
use Rattle.relay_tables.proofs.sending.number_senders.Goals as goal

pub number_owners-requires-clause-room : goal.number_owners-requires-clause-room
number_owners-requires-clause-room c = ap length c.in_ok-senders.ensures

pub returns-clause-owned : goal.returns-clause-owned
returns-clause-owned c = c.in_ok-owners.ensures.owned _ c.in_ok-senders.ensures
