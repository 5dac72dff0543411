-- The transactions of groups are a sound list.
use Rattle.std.proofs.Common.{◌≡◌, ℕ, ◌<◌, List, refl, sym, ap, ◌∙◌, subst}
use Rattle.std.specs.List.{Contains, flat_map}
use Rattle.relay_text.specs.AddressParts.{AddressParts}
use Rattle.relay_routes.specs.declared.route.Route.{Route}
use Rattle.relay_routes.specs.declared.transport.Transport.{Transport}
use Rattle.relay_rings.specs.Batches.{parts_of}
use Rattle.relay_rings.proofs.Members.{Contains-map, Contains-from_map, Contains-flat_map, Contains-from_flat_map}
use Rattle.relay_rings.proofs.Parts.{part_within, part_from, part_of_each}
use Rattle.relay_wire.specs.declared.plan.Planned.{Planned}
use Rattle.relay_delivery.specs.Groups.{Group, Sender, DeliveryKey, key_of, planned, IsGrouping, IsPlacedAt, IsSoundFor, batches_of, AreTransactionsOf}
use Rattle.relay_delivery.proofs.Order.{group_key}

abbrev pub key_by : Sender → Transport → List ℕ → DeliveryKey
key_by sender transport nexthop = record { sender = sender; transport = transport; nexthop = nexthop }

-- a group's key, from what it is that of
pub same_key : (g : Group) (key : DeliveryKey) (route : Route) → g.sender ≡ key.sender → g.route ≡ route → route.transport ≡ key.transport → route.nexthop ≡ key.nexthop → group_key g ≡ key
same_key g key route sender_is route_is transport_is nexthop_is =
    ap (λ s. key_by s g.route.transport g.route.nexthop) sender_is
    ∙ ap (λ (r : Route). key_by key.sender r.transport r.nexthop) route_is
    ∙ ap (λ t. key_by key.sender t route.nexthop) transport_is
    ∙ ap (key_by key.sender key.transport) nexthop_is

module _ (limit : Transport → ℕ) (IsPlaced : Sender → Route → AddressParts → Type 0) (pos : (t : Transport) → 0 < limit t) where
  abbrev parts_at : Group → List (List AddressParts)
  parts_at g = parts_of (limit g.route.transport) g.to

  -- a transaction, by the group that it's of
  record IsBatchOf (groups : List Group) (t : Planned) : Type 0 where
    group : Group
    in_groups : Contains groups group
    in_parts : Contains (parts_of (limit t.transport) group.to) t.to
    key : group_key group ≡ key_of t

  batch_of : (groups : List Group) (t : Planned) → Contains (flat_map (batches_of limit IsPlaced) groups) t → IsBatchOf groups t
  batch_of groups t c =
      let g = Contains-from_flat_map (batches_of limit IsPlaced) groups t c in
      let p = Contains-from_map (planned g.0) (parts_at g.0) t g.2 in
      record { group = g.0; in_groups = g.1; in_parts = subst (λ (u : Planned). Contains (parts_of (limit u.transport) g.0.to) u.to) p.2 p.1; key = ap key_of p.2 }

  module _ (groups : List Group) (grouping : IsGrouping limit IsPlaced groups) where
    placed_in : (g : Group) (a : AddressParts) → Contains groups g → Contains g.to a → IsPlacedAt limit IsPlaced (group_key g) a
    placed_in g a c has = (g.route, (grouping.members g.sender g.route a).1 (record { group = g; in_groups = c; sender_is = refl; route_is = refl; in_group = has }), refl, refl)

    groups_sound : IsSoundFor limit IsPlaced (flat_map (batches_of limit IsPlaced) groups)
    groups_sound = record {
      within = λ t c.
          let b = batch_of groups t c in
          part_within (limit t.transport) b.group.to t.to b.in_parts;
      placed = λ t a c has.
          let b = batch_of groups t c in
          subst (λ (k : DeliveryKey). IsPlacedAt limit IsPlaced k a) b.key (placed_in b.group a b.in_groups (part_from (limit t.transport) b.group.to t.to a b.in_parts has));
      complete = λ k a p.
          let m = (grouping.members k.sender p.0 a).0 p.1 in
          let g = m.group in
          let part = part_of_each (limit g.route.transport) g.to a (pos g.route.transport) m.in_group in
          let t : Planned = planned g part.0 in
          (t, Contains-flat_map (batches_of limit IsPlaced) groups g t m.in_groups (Contains-map (planned g) (parts_at g) part.0 part.1), same_key g k p.0 m.sender_is m.route_is p.2 p.3, part.2);
    }

  pub transactions_sound : (ts : List Planned) → AreTransactionsOf limit IsPlaced ts → IsSoundFor limit IsPlaced ts
  transactions_sound ts h = subst (λ (us : List Planned). IsSoundFor limit IsPlaced us) (sym h.batches) (groups_sound h.groups h.grouping)
