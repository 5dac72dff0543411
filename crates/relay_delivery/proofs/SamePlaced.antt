-- What transactions are for what is placed, they are for the same placed in other words.
use Rattle.std.proofs.Common.{ℕ, List}
use Rattle.std.specs.Prelude.{◌↔◌}
use Rattle.relay_text.specs.AddressParts.{AddressParts}
use Rattle.relay_routes.specs.declared.route.Route.{Route}
use Rattle.relay_routes.specs.declared.transport.Transport.{Transport}
use Rattle.relay_wire.specs.declared.plan.Planned.{Planned}
use Rattle.relay_delivery.specs.Groups.{Group, Sender, DeliveryKey, key_of, IsGrouping, AreTransactionsOf, IsPlacedAt, IsSoundFor, IsFewest}

module _ (limit : Transport → ℕ) where
  -- one way of what is placed
  pub sound_over : (P Q : Sender → Route → AddressParts → Type 0) → ((s : Sender) (r : Route) (a : AddressParts) → P s r a ↔ Q s r a) → (ts : List Planned) → IsSoundFor limit P ts → IsSoundFor limit Q ts
  sound_over P Q same ts sound =
      let over : (key : DeliveryKey) (a : AddressParts) → IsPlacedAt limit P key a → IsPlacedAt limit Q key a = λ key a at. (at.0, (same key.sender at.0 a).0 at.1, at.2, at.3) in
      let back : (key : DeliveryKey) (a : AddressParts) → IsPlacedAt limit Q key a → IsPlacedAt limit P key a = λ key a at. (at.0, (same key.sender at.0 a).1 at.1, at.2, at.3) in
      record {
        within = sound.within;
        placed = λ t a c has. over (key_of t) a (sound.placed t a c has);
        complete = λ key a at. sound.complete key a (back key a at);
      }

  module _ (P Q : Sender → Route → AddressParts → Type 0) (same : (s : Sender) (r : Route) (a : AddressParts) → P s r a ↔ Q s r a) where
    grouping_over : (groups : List Group) → IsGrouping limit P groups → IsGrouping limit Q groups
    grouping_over groups grouping = record {
      ascending = grouping.ascending;
      nonempty = grouping.nonempty;
      recipients_ascending = grouping.recipients_ascending;
      members = λ s r a. (λ q. (grouping.members s r a).0 ((same s r a).1 q), λ g. (same s r a).0 ((grouping.members s r a).1 g));
    }

    pub transactions_over : (ts : List Planned) → AreTransactionsOf limit P ts → AreTransactionsOf limit Q ts
    transactions_over ts are = record { groups = are.groups; grouping = grouping_over are.groups are.grouping; batches = are.batches }

    pub fewest_over : (ts : List Planned) → IsFewest limit P ts → IsFewest limit Q ts
    fewest_over ts fewest other sound = fewest other (sound_over Q P (λ s r a. ((same s r a).1, (same s r a).0)) other sound)
