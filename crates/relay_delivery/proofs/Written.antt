-- What deliveries under their keys are cut into, and what is written of the cuts.
use Rattle.std.proofs.Common.{◌≡◌, ℕ, ◌<◌, ◌≤◌, List, length, get_or, map, sym, ap, ◌∙◌, subst, arith, slice_index}
use Rattle.std.specs.Prelude.{option_copied}
use Rattle.std.specs.Borrow.{Bor}
use Rattle.std.specs.List.{All, Contains}
use Rattle.std.proofs.lemmas.List.{length-map, get_or-map}
use Rattle.std.proofs.lemmas.List.Elements.{All-weaker, Contains-get_or}
use Rattle.relay_routes.specs.declared.route.Route.{Route}
use Rattle.relay_routes.specs.declared.transport.Transport.{Transport}
use Rattle.relay_rings.specs.declared.batching.Placed.{Placed}
use Rattle.relay_rings.specs.declared.batching.Transaction.{Transaction}
use Rattle.relay_rings.specs.Batches.{items_at, keys_of, parts_of, batches_at, IsAscendingPlaced}
use Rattle.relay_rings.specs.Batches as cuts
use Rattle.relay_rings.specs.Sound as sound
use Rattle.relay_rings.proofs.Members.{Contains-from_map, Contains-from_flat_map}
use Rattle.relay_wire.specs.declared.plan.Planned.{Planned}
use Rattle.relay_delivery.specs.declared.group_numbers.GroupNumbers.{GroupNumbers}
use Rattle.relay_delivery.specs.declared.limits.BatchLimits.{BatchLimits}
use Rattle.relay_delivery.specs.declared.placing.Placing.{Placing}
use Rattle.relay_delivery.specs.Cuts.{route_at, transaction_of, IsWithin, IsOrdered}
use Rattle.relay_delivery.specs.Groups.{limit_at, AreTransactionsOf, IsSoundFor, IsFewest}
use Rattle.relay_delivery.specs.Keyed.{AreKeyed}
use Rattle.relay_delivery.specs.Placings.{senders_of, routes_of, IsPlacedBy}
use Rattle.relay_delivery.proofs.KeyedSteps.{no_numbers}
use Rattle.relay_delivery.proofs.Grouping.{placed_at, placed_ascends, within, key_small, transactions_are}
use Rattle.relay_delivery.proofs.SoundLists.{transactions_sound}
use Rattle.relay_delivery.proofs.Counterparts.{none_shorter}

-- the limits of groups, of routes and groups as they are read
abbrev pub limits_of : BatchLimits → List (Bor Route) → List GroupNumbers → List ℕ
limits_of limits routes groups = map (λ (g : GroupNumbers). limit_at limits (route_at (routes_of routes) g.route).transport) groups

pub limits_read : (limits : BatchLimits) (routes read_routes : List (Bor Route)) (groups read_groups : List GroupNumbers) (by_key read : List ℕ) → read_routes ≡ routes → read_groups ≡ groups → by_key ≡ limits_of limits read_routes read_groups → read ≡ by_key → read ≡ limits_of limits routes groups
limits_read limits routes read_routes groups read_groups by_key read routes_are groups_are by_key_is read_is =
    read_is ∙ by_key_is ∙ ap (λ rs. limits_of limits rs read_groups) routes_are ∙ ap (limits_of limits routes) groups_are

module _ (p : Placing) (order : IsOrdered p) (groups : List GroupNumbers) (placed : List Placed) (keyed : AreKeyed p.recipients.items p.deliveries.items groups placed)
    (range : All (λ (g : GroupNumbers). (g.sender < length p.senders.items) × (g.route < length p.routes.items)) groups) where
  in_lists : All (λ (g : GroupNumbers). (g.sender < length (senders_of p.senders.items)) × (g.route < length (routes_of p.routes.items))) groups
  in_lists =
      let senders_are = length-map p.senders.items option_copied in
      let routes_are = length-map p.routes.items (λ (r : Bor Route). r.now) in
      All-weaker (λ (g : GroupNumbers). (g.sender < length p.senders.items) × (g.route < length p.routes.items)) (λ g. (g.sender < length (senders_of p.senders.items)) × (g.route < length (routes_of p.routes.items)))
      (λ g h.
      let sender : g.sender < length p.senders.items = h.0 in
      let route : g.route < length p.routes.items = h.1 in
      (omega arith, omega arith))
      groups range

  pub placed_rises : IsAscendingPlaced placed
  placed_rises = placed_ascends (senders_of p.senders.items) (routes_of p.routes.items) p.recipients.items p.deliveries.items order groups placed keyed in_lists

  -- a batch is of a group, and of recipients
  batch_key : (limits : List ℕ) (t : Transaction) → Contains (cuts.batches_of limits placed) t → t.key < length groups
  batch_key limits t c =
      let k = Contains-from_flat_map (batches_at limits placed) (keys_of placed) t c in
      let of_key : List ℕ → Transaction = λ part. record { key = k.0; items = part } in
      let part = Contains-from_map of_key (parts_of (slice_index limits k.0) (items_at placed k.0)) t k.2 in
      subst (λ (u : Transaction). u.key < length groups) part.2 (key_small (senders_of p.senders.items) (routes_of p.routes.items) p.recipients.items p.deliveries.items order groups placed keyed in_lists k.0 k.1)

  batch_items : (limits : List ℕ) (ts : List Transaction) → sound.IsSoundFor limits placed ts → (t : Transaction) → Contains ts t → All (λ n. n < length p.recipients.items) t.items
  batch_items limits ts is t c i d b =
      let item = get_or t.items i d in
      (within (senders_of p.senders.items) (routes_of p.routes.items) p.recipients.items p.deliveries.items order groups placed keyed in_lists (placed_at t.key item) (is.placed t item c (Contains-get_or t.items i d b))).1

  pub cuts_within : (limits : List ℕ) (made : List Transaction) → made ≡ cuts.batches_of limits placed → sound.IsSoundFor limits placed made → All (IsWithin p groups) made
  cuts_within limits made made_is is i d b =
      let t = get_or made i d in
      let here : Contains made (get_or made i d) = Contains-get_or made i d b in
      let inside = batch_key limits t (subst (λ ts. Contains ts (get_or made i d)) made_is here) in
      let of_group = range t.key no_numbers inside in
      record { key = inside; sender = of_group.0; route = of_group.1; recipients = batch_items limits made is t here }

  module _ (limits : BatchLimits) (pos : (t : Transport) → 0 < limit_at limits t) (by_key : List ℕ)
      (by_key_is : by_key ≡ limits_of limits p.routes.items groups) where
    pub all_positive : All (λ limit. 0 < limit) by_key
    all_positive i d b =
        let f : GroupNumbers → ℕ = λ g. limit_at limits (route_at (routes_of p.routes.items) g.route).transport in
        let long = ap length by_key_is ∙ length-map groups f in
        let inside : i < length groups = omega arith in
        let at : get_or by_key i d ≡ f (get_or groups i no_numbers) = ap (λ ls. get_or ls i d) by_key_is ∙ get_or-map f groups i no_numbers d inside in
        subst (λ n. 0 < n) (sym at) (pos (route_at (routes_of p.routes.items) (get_or groups i no_numbers).route).transport)

    -- the transactions that stand for the batches
    module _ (ts : List Planned) (made : List Transaction) (made_is : made ≡ cuts.batches_of by_key placed)
        (ts_are : ts ≡ map (transaction_of p groups) made) where
      pub written_are : AreTransactionsOf (limit_at limits) (IsPlacedBy (senders_of p.senders.items) (routes_of p.routes.items) p.recipients.items p.deliveries.items) ts
      written_are =
          let write : Transaction → Planned = transaction_of p groups in
          transactions_are (senders_of p.senders.items) (routes_of p.routes.items) p.recipients.items p.deliveries.items order groups placed keyed in_lists (limit_at limits) by_key by_key_is ts (ts_are ∙ ap (map write) made_is)

      pub written_sound : IsSoundFor (limit_at limits) (IsPlacedBy (senders_of p.senders.items) (routes_of p.routes.items) p.recipients.items p.deliveries.items) ts
      written_sound = transactions_sound (limit_at limits) (IsPlacedBy (senders_of p.senders.items) (routes_of p.routes.items) p.recipients.items p.deliveries.items) pos ts written_are

      pub written_fewest : ((other : List Transaction) → sound.IsSoundFor by_key placed other → length made ≤ length other) → IsFewest (limit_at limits) (IsPlacedBy (senders_of p.senders.items) (routes_of p.routes.items) p.recipients.items p.deliveries.items) ts
      written_fewest fewest =
          let write : Transaction → Planned = transaction_of p groups in
          none_shorter (senders_of p.senders.items) (routes_of p.routes.items) p.recipients.items p.deliveries.items order groups placed keyed in_lists (limit_at limits) by_key by_key_is ts made (ap length ts_are ∙ length-map made write) fewest
