use Rattle.std.proofs.Common.{◌≡◌, ◌≤◌, ◌+◌, length, [], ◌∷◌}
use Rattle.std.specs.Prelude.{count_by, is_some}
use Rattle.std.specs.List.{range_with_len}
use Rattle.relay_tables.specs.Senders.{Sender, owner_number}
use Rattle.relay_tables.specs.Sending.{AreOwned}
use Rattle.relay_tables.proofs.sending.number_owners.Given as goal

abbrev pub invariant-loop-alias : goal.invariant-loop-alias
invariant-loop-alias l = record {
  few : length l.senders ≤ count_by (λ alias. is_some (owner_number l.tables alias)) (range_with_len 0 l.alias) + 1;
  count : length l.owners.items ≡ l.alias;
  owned : (sender : Sender) → l.initial.senders ≡ sender ∷ [] → AreOwned l.tables sender l.alias l.senders l.owners.items;
}
