-- A sound list of transactions in full has one as long by keys and numbers, so that none is shorter than the fewest of these.
use Rattle.std.proofs.Common.{◌≡◌, ℕ, ◌<◌, ◌≤◌, List, [], ◌∷◌, length, get_or, map, refl, sym, ap, ◌∙◌, subst, arith, slice_index, inl, inr}
use Rattle.std.specs.List.{All, Contains}
use Rattle.std.proofs.lemmas.Bool.{cases_lt, cases_order}
use Rattle.std.proofs.lemmas.List.Elements.{Contains-get_or}
use Rattle.relay_text.specs.AddressParts.{AddressParts}
use Rattle.relay_routes.specs.declared.route.Route.{Route}
use Rattle.relay_routes.specs.declared.transport.Transport.{Transport}
use Rattle.relay_rings.specs.declared.batching.Placed.{Placed}
use Rattle.relay_rings.specs.declared.batching.Transaction.{Transaction}
use Rattle.relay_rings.specs.Sound as cuts
use Rattle.relay_wire.specs.declared.plan.Planned.{Planned}
use Rattle.relay_delivery.specs.declared.group_numbers.GroupNumbers.{GroupNumbers}
use Rattle.relay_delivery.specs.declared.routed.Routed.{Routed}
use Rattle.relay_delivery.specs.declared.delivery.Delivery.{Delivery}
use Rattle.relay_delivery.specs.Cuts.{route_at, address_at, group_of}
use Rattle.relay_delivery.specs.Groups.{Group, Sender, DeliveryKey, key_of, IsPlacedAt, IsSoundFor, IsFewest}
use Rattle.relay_delivery.specs.Keyed.{numbers_at, AreKeyed}
use Rattle.relay_delivery.specs.Placings.{IsInOrder, IsPlacedBy}
use Rattle.relay_delivery.proofs.Lists.{head, none_in, AreCounterparts, counterparts}
use Rattle.relay_delivery.proofs.Order.{never_less, group_key, groups_tied, one_recipient}
use Rattle.relay_delivery.proofs.Grouping.{placed_at, within, under_route, groups_apart, key_route, placed_under, under_key, limit_is}
use Rattle.relay_delivery.proofs.SoundLists.{same_key}

module _ (senders : List Sender) (routes : List Route) (recipients : List Routed) (deliveries : List Delivery) (order : IsInOrder senders routes recipients deliveries)
    (groups : List GroupNumbers) (placed : List Placed) (keyed : AreKeyed recipients deliveries groups placed) (range : All (λ (g : GroupNumbers). (g.sender < length senders) × (g.route < length routes)) groups) where
  abbrev Is_placed : Sender → Route → AddressParts → Type 0
  Is_placed = IsPlacedBy senders routes recipients deliveries

  abbrev group_by : ℕ → Group
  group_by key = group_of senders routes recipients (numbers_at groups key) []

  -- what the transactions of a key deliver by
  abbrev delivers_by : ℕ → DeliveryKey
  delivers_by key = group_key (group_by key)

  -- no two keys deliver by one thing
  one_key : (j k : ℕ) → j < length groups → k < length groups → delivers_by j ≡ delivers_by k → j ≡ k
  one_key j k b c e =
      let apart = groups_apart senders routes recipients deliveries order groups placed keyed range in
      elim (cases_order j k) [
        | inl same ↦ same
        | inr differ ↦
            elim differ [
              | inl l ↦ absurd (never_less (sym (groups_tied (group_by j) (group_by k) e) ∙ apart j k l c [] []))
              | inr l ↦ absurd (never_less (sym (groups_tied (group_by k) (group_by j) (sym e)) ∙ apart k j l b [] []))
            ]
      ]

  key_low : (key item : ℕ) → Contains placed (placed_at key item) → key < length groups
  key_low key item c = (under_route senders routes recipients deliveries order groups placed keyed range (placed_at key item) c).0

  item_low : (key item : ℕ) → Contains placed (placed_at key item) → item < length recipients
  item_low key item c = (within senders routes recipients deliveries order groups placed keyed range (placed_at key item) c).1

  -- a recipient's number stands under a key for an address that is delivered by this
  record StandsFor (key : DeliveryKey) (a : AddressParts) (k x : ℕ) : Type 0 where
    is_placed : Contains placed (placed_at k x)
    key_is : delivers_by k ≡ key
    address_is : address_at recipients x ≡ a

  module _ (limit : Transport → ℕ) where
    number_of : (key : DeliveryKey) (a : AddressParts) → IsPlacedAt limit Is_placed key a → (k : ℕ) × (x : ℕ) × StandsFor key a k x
    number_of key a at =
        let w = under_key senders routes recipients deliveries order groups placed keyed range key.sender at.0 a at.1 in
        (w.key, w.item, record { is_placed = w.is_placed; key_is = same_key (group_by w.key) key at.0 w.sender_is w.route_is at.2 at.3; address_is = w.address_is })

    -- all addresses of a transaction are under one key
    numbers_for : (key : DeliveryKey) (to : List AddressParts) → ((a : AddressParts) → Contains to a → IsPlacedAt limit Is_placed key a) → (k : ℕ) × AreCounterparts (λ a x. StandsFor key a k x) to
    numbers_for key [] f = (0, counterparts (λ a x. StandsFor key a 0 x) [] (λ a c. absurd (none_in a c)))
    numbers_for key (a ∷ to) f =
        let first = number_of key a (f a (head a to)) in
        let k = first.0 in (
          k,
          counterparts (λ b x. StandsFor key b k x) (a ∷ to)
              (λ b c.
              let w = number_of key b (f b c) in
              let same : w.0 ≡ k = one_key w.0 k (key_low w.0 w.1 w.2.is_placed) (key_low k first.1 first.2.is_placed) (w.2.key_is ∙ sym first.2.key_is) in
              (w.1, subst (λ j. StandsFor key b j w.1) same w.2)),
        )

    -- a transaction by key and numbers has what one in full has
    record IsCounterpart (t : Planned) (u : Transaction) : Type 0 where
      long : length u.items ≡ length t.to
      back : (x : ℕ) → Contains u.items x → (a : AddressParts) × StandsFor (key_of t) a u.key x
      there : (a : AddressParts) → Contains t.to a → (x : ℕ) × Contains u.items x × StandsFor (key_of t) a u.key x

    counterpart : (t : Planned) → ((a : AddressParts) → Contains t.to a → IsPlacedAt limit Is_placed (key_of t) a) → (u : Transaction) × IsCounterpart t u
    counterpart t f =
        let n = numbers_for (key_of t) t.to f in
        let u : Transaction = record { key = n.0; items = n.1.list } in (
          u,
          record {
            long = n.1.long;
            back = λ x c.
                let r = n.1.back x c in
                (r.0, r.2);
            there = λ a c. n.1.there a c;
          },
        )

    module _ (limits : List ℕ) (limits_are : limits ≡ map (λ (g : GroupNumbers). limit (route_at routes g.route).transport) groups) (other : List Planned) (sound : IsSoundFor limit Is_placed other) where
      others : AreCounterparts IsCounterpart other
      others = counterparts IsCounterpart other (λ t c. counterpart t (λ a has. sound.placed t a c has))

      others_within : (u : Transaction) → Contains others.list u → length u.items ≤ slice_index limits u.key
      others_within u c =
          let r = others.back u c in
          let t = r.0 in
          let same : length u.items ≡ length t.to = r.2.long in
          elim (cases_lt 0 (length u.items)) [
            | inl some ↦
                let x = r.2.back (get_or u.items 0 0) (Contains-get_or u.items 0 0 some) in
                let is = limit_is senders routes recipients deliveries order groups placed keyed range limit limits limits_are u.key (key_low u.key (get_or u.items 0 0) x.1.is_placed) in
                let by : limit (group_by u.key).route.transport ≡ limit t.transport = ap (λ (k : DeliveryKey). limit k.transport) x.1.key_is in
                let low : length t.to ≤ limit t.transport = sound.within t r.1 in
                omega arith
            | inr none ↦ omega arith
          ]

      others_complete : (k x : ℕ) → Contains placed (placed_at k x) → (u : Transaction) × Contains others.list u × (u.key ≡ k) × Contains u.items x
      others_complete k x c =
          let by = placed_under senders routes recipients deliveries order groups placed keyed range k x c in
          let found = sound.complete (delivers_by k) (address_at recipients x) ((group_by k).route, by, refl, refl) in
          let w = others.there found.0 found.1 in
          let u = w.0 in
          let y = w.2.there (address_at recipients x) found.3 in
          let same : u.key ≡ k = one_key u.key k (key_low u.key y.0 y.2.is_placed) (key_low k x c) (y.2.key_is ∙ found.2) in
          let under : Contains placed (placed_at k y.0) = subst (λ j. Contains placed (placed_at j y.0)) same y.2.is_placed in
          let route = key_route senders routes recipients deliveries order groups placed keyed range k in
          let one : y.0 ≡ x = one_recipient senders routes recipients deliveries order y.0 x (item_low k y.0 under) (item_low k x c) (sym (route y.0 under) ∙ route x c) y.2.address_is in
          (u, w.1, same, subst (λ z. Contains u.items z) one y.1)

      others_sound : cuts.IsSoundFor limits placed others.list
      others_sound = record {
        within = others_within;
        placed = λ u x c has. ((others.back u c).2.back x has).1.is_placed;
        complete = others_complete;
      }

    -- where no sound list by keys and numbers is shorter than `count`, none in full is
    pub none_shorter : (limits : List ℕ) → limits ≡ map (λ (g : GroupNumbers). limit (route_at routes g.route).transport) groups → (ts : List Planned) (made : List Transaction) → length ts ≡ length made
        → ((other : List Transaction) → cuts.IsSoundFor limits placed other → length made ≤ length other) → IsFewest limit Is_placed ts
    none_shorter limits limits_are ts made long fewest other sound =
        let those = others limits limits_are other sound in
        let same : length those.list ≡ length other = those.long in
        let few : length made ≤ length those.list = fewest those.list (others_sound limits limits_are other sound) in
        omega arith
