use Rattle.std.proofs.Common.{◌≡◌}
use Rattle.std.specs.Prelude.{count_by, is_some}
use Rattle.std.specs.List.{range_with_len}
use Rattle.relay_tables.specs.Senders.{owner_number}
use Rattle.relay_tables.proofs.sending.count_owners.Given as goal

abbrev pub invariant-loop-alias : goal.invariant-loop-alias
invariant-loop-alias l = l.count ≡ count_by (λ alias. is_some (owner_number l.tables alias)) (range_with_len 0 l.alias)
