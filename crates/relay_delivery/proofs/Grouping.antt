-- The groups of keyed recipients, and the transactions that their batches stand for.
use Rattle.std.proofs.Common.{◌≡◌, ◌≢◌, ◌⊎◌, ℕ, ◌<◌, ◌&&◌, eqb, ltb, IsTrue, List, [], ◌∷◌, length, get_or, map, refl, sym, ap, ◌∙◌, subst, arith, slice_index, inl, inr}
use Rattle.std.specs.Prelude.{Some, None, slice_get}
use Rattle.std.specs.List.{All, AllPairs, Contains, filter, flat_map}
use Rattle.std.proofs.lemmas.Bool.{cases_order, eqb-true, eq-eqb, lt-ltb, or_left, or_right, and_from}
use Rattle.std.proofs.lemmas.List.{length-map, get_or-map}
use Rattle.std.proofs.lemmas.List.Elements.{All-contains, All-weaker, Contains-get_or}
use Rattle.std.proofs.lemmas.List.Folds.{flat_map-map}
use Rattle.std.proofs.lemmas.List.Kept.{Contains-dedup_nat, Contains-from_dedup}
use Rattle.std.proofs.lemmas.Option.{slice_get-get_or, get_or_from_slice_get}
use Rattle.std.specs.declared.cmp.Ordering.TheVariants.{Less}
use Rattle.relay_text.specs.AddressParts.{AddressParts}
use Rattle.relay_text.specs.TextSets.{IsAscendingBy}
use Rattle.relay_routes.specs.declared.route.Route.{Route}
use Rattle.relay_routes.specs.declared.transport.Transport.{Transport}
use Rattle.relay_rings.specs.declared.batching.Placed.{Placed}
use Rattle.relay_rings.specs.declared.batching.Transaction.{Transaction}
use Rattle.relay_rings.specs.Batches.{items_at, keys_of, parts_of, comes_before, IsAscendingPlaced}
use Rattle.relay_rings.specs.Batches as cuts
use Rattle.relay_rings.proofs.GroupLemmas.{keys_ascending, keys_within, items_ascending}
use Rattle.relay_rings.proofs.Members.{Contains-map, Contains-from_map, Contains-filter, Contains-from_filter}
use Rattle.relay_wire.specs.declared.plan.Planned.{Planned}
use Rattle.relay_delivery.specs.declared.group_numbers.GroupNumbers.{GroupNumbers}
use Rattle.relay_delivery.specs.declared.routed.Routed.{Routed}
use Rattle.relay_delivery.specs.declared.delivery.Delivery.{Delivery}
use Rattle.relay_delivery.specs.Cuts.{no_route, no_address, sender_at, route_at, address_at, group_of, planned_of}
use Rattle.relay_delivery.specs.Groups.{Group, Sender, group_cmp, path_cmp, planned, IsGrouped, IsGrouping, batches_of, AreTransactionsOf}
use Rattle.relay_delivery.specs.Keyed.{numbers_at, route_by, delivery_of, IsUnderRoute, AreKeyed}
use Rattle.relay_delivery.specs.Placings.{IsInOrder, IsPlacedBy, delivery_below}
use Rattle.relay_delivery.proofs.Lists.{none_in, parts_of-map, map_twice, map-flat_map, flat_map_agree}
use Rattle.relay_delivery.proofs.Order.{pairs_map, routes_rise, paths_rise, groups_rise}

abbrev pub no_placed : Placed
no_placed = record { key = 0; item = 0 }

-- ---- placed items and their keys
by_key : (p q : Placed) → p.key < q.key → IsTrue (comes_before p q)
by_key p q l = or_left (ltb p.key q.key) (eqb p.key q.key && ltb p.item q.item) (lt-ltb p.key q.key l)

by_item : (p q : Placed) → p.key ≡ q.key → p.item < q.item → IsTrue (comes_before p q)
by_item p q e l = or_right (ltb p.key q.key) (eqb p.key q.key && ltb p.item q.item) (and_from (eqb p.key q.key) (ltb p.item q.item) (eq-eqb p.key q.key e) (lt-ltb p.item q.item l))

abbrev pub placed_at : ℕ → ℕ → Placed
placed_at key item = record { key = key; item = item }

pub item_placed : (placed : List Placed) (key item : ℕ) → Contains (items_at placed key) item → Contains placed (placed_at key item)
item_placed placed key item c =
    let test = λ (p : Placed). eqb p.key key in
    let r = Contains-from_map (λ (p : Placed). p.item) (filter test placed) item c in
    let f = Contains-from_filter test placed r.0 r.1 in
    let is : r.0 ≡ placed_at key item = ap (λ k. placed_at k r.0.item) (eqb-true r.0.key key f.1) ∙ ap (placed_at key) r.2 in
    subst (λ (p : Placed). Contains placed p) is f.0

pub placed_item : (placed : List Placed) (p : Placed) → Contains placed p → Contains (items_at placed p.key) p.item
placed_item placed p c =
    let test = λ (q : Placed). eqb q.key p.key in
    Contains-map (λ (q : Placed). q.item) (filter test placed) p (Contains-filter test placed p c (eq-eqb p.key p.key refl))

pub key_in : (placed : List Placed) (p : Placed) → Contains placed p → Contains (keys_of placed) p.key
key_in placed p c = Contains-dedup_nat (map (λ (q : Placed). q.key) placed) p.key (Contains-map (λ (q : Placed). q.key) placed p c)

-- a key is that of something placed
pub placed_of_key : (placed : List Placed) (key : ℕ) → Contains (keys_of placed) key → (p : Placed) × Contains placed p × (p.key ≡ key)
placed_of_key placed key c = Contains-from_map (λ (q : Placed). q.key) placed key (Contains-from_dedup eqb (map (λ (q : Placed). q.key) placed) key c)

nonempty : {X : Type 0} (xs : List X) (x : X) → Contains xs x → xs ≢ []
nonempty xs x c e = none_in x (subst (λ ys. Contains ys x) e c)

module _ (senders : List Sender) (routes : List Route) (recipients : List Routed) (deliveries : List Delivery) (order : IsInOrder senders routes recipients deliveries)
    (groups : List GroupNumbers) (placed : List Placed) (keyed : AreKeyed recipients deliveries groups placed) (range : All (λ (g : GroupNumbers). (g.sender < length senders) × (g.route < length routes)) groups) where
  -- the delivery of what is placed
  pub has_delivery : (p : Placed) → Contains placed p → Contains deliveries (delivery_of groups p)
  has_delivery p c = subst (λ ss. Contains ss (delivery_of groups p)) keyed.in_turn (Contains-map (delivery_of groups) placed p c)

  pub of_delivery : (s : Delivery) → Contains deliveries s → (p : Placed) × Contains placed p × (delivery_of groups p ≡ s)
  of_delivery s c = Contains-from_map (delivery_of groups) placed s (subst (λ ss. Contains ss s) (sym keyed.in_turn) c)

  pub under_route : (p : Placed) → Contains placed p → IsUnderRoute recipients groups p
  under_route p c = All-contains (IsUnderRoute recipients groups) placed p keyed.under_routes c

  pub within : (p : Placed) → Contains placed p → (((delivery_of groups p).sender < length senders) × (p.item < length recipients))
  within p c = All-contains (λ (s : Delivery). (s.sender < length senders) × (s.recipient < length recipients)) deliveries (delivery_of groups p) order.range.to_both (has_delivery p c)

  pub keys_small : All (λ (p : Placed). p.key < length groups) placed
  keys_small = All-weaker (IsUnderRoute recipients groups) (λ p. p.key < length groups) (λ p u. u.0) placed keyed.under_routes

  deliveries_apart : (i j : ℕ) (d : Placed) → i < j → j < length placed → delivery_below (delivery_of groups (get_or placed i d)) (delivery_of groups (get_or placed j d))
  deliveries_apart i j d below inside =
      let f = delivery_of groups in
      let long = length-map placed f in
      let ordered : AllPairs delivery_below (map f placed) = subst (λ ss. AllPairs delivery_below ss) (sym keyed.in_turn) order.deliveries_ascending in
      let pair = ordered i j (f d) below (omega arith) in
      let first = subst (λ s. delivery_below s (get_or (map f placed) j (f d))) (get_or-map f placed i d (f d) (omega arith)) pair in
      subst (λ s. delivery_below (f (get_or placed i d)) s) (get_or-map f placed j d (f d) inside) first

  pub placed_ascends : IsAscendingPlaced placed
  placed_ascends i j d below inside =
      let p = get_or placed i d in
      let q = get_or placed j d in
      let has_p = Contains-get_or placed i d (omega arith) in
      let has_q = Contains-get_or placed j d inside in
      let u = under_route p has_p in
      let v = under_route q has_q in
      let g = numbers_at groups p.key in
      let h = numbers_at groups q.key in
      let small : q.item < length recipients = (within q has_q).1 in
      let route_p : g.route ≡ route_by recipients p.item = u.1 in
      let route_q : h.route ≡ route_by recipients q.item = v.1 in
      let pair : (g.sender < h.sender) ⊎ ((g.sender ≡ h.sender) × (p.item < q.item)) = deliveries_apart i j d below inside in
      elim (cases_order p.key q.key) [
        | inl e ↦
            let same : g.sender ≡ h.sender = ap (λ k. (numbers_at groups k).sender) e in
            elim pair [ inl l ↦ absurd (omega arith) | inr l ↦ by_item p q e l.1 ]
        | inr apart ↦
            elim apart [
              | inl l ↦ by_key p q l
              | inr l ↦
                  elim (keyed.ascending q.key p.key (record { sender = 0; route = 0 }) l u.0) [
                    | inl back ↦ elim pair [ inl m ↦ absurd (omega arith) | inr m ↦ absurd (omega (arith, m.0)) ]
                    | inr back ↦
                        elim pair [
                          | inl m ↦ absurd (omega (arith, back.0))
                          | inr m ↦
                              let rise = routes_rise senders routes recipients deliveries order p.item q.item m.1 small in
                              let fall : h.route < g.route = back.1 in
                              absurd (omega arith)
                        ]
                  ]
            ]
      ]

  -- ---- the groups
  abbrev pub group_at : ℕ → Group
  group_at key = group_of senders routes recipients (numbers_at groups key) (items_at placed key)

  abbrev pub all_groups : List Group
  all_groups = map group_at (keys_of placed)

  pub key_small : (key : ℕ) → Contains (keys_of placed) key → key < length groups
  key_small key c = All-contains (λ k. k < length groups) (keys_of placed) key (keys_within placed (length groups) keys_small) c

  pub in_lists : (key : ℕ) → key < length groups → ((numbers_at groups key).sender < length senders) × ((numbers_at groups key).route < length routes)
  in_lists key b = range key (record { sender = 0; route = 0 }) b

  pub groups_apart : (j k : ℕ) → j < k → k < length groups → (xs ys : List ℕ) → group_cmp (group_of senders routes recipients (numbers_at groups j) xs) (group_of senders routes recipients (numbers_at groups k) ys) ≡ Less
  groups_apart j k l b xs ys =
      groups_rise senders routes recipients deliveries order (numbers_at groups j) (numbers_at groups k) xs ys (in_lists k b) (keyed.ascending j k (record { sender = 0; route = 0 }) l b)

  groups_ascend : IsAscendingBy group_cmp all_groups
  groups_ascend =
      let keys = keys_of placed in
      pairs_map (λ a b. group_cmp a b ≡ Less) group_at keys
      (λ i j d below inside.
      let k = get_or keys j d in
      groups_apart (get_or keys i d) k (keys_ascending placed placed_ascends i j d below inside) (key_small k (Contains-get_or keys j d inside)) (items_at placed (get_or keys i d)) (items_at placed k))

  some_in : (key : ℕ) → Contains (keys_of placed) key → (group_at key).to ≢ []
  some_in key c =
      let p = placed_of_key placed key c in
      let has = subst (λ k. Contains (items_at placed k) p.0.item) p.2 (placed_item placed p.0 p.1) in
      nonempty (group_at key).to (address_at recipients p.0.item) (Contains-map (address_at recipients) (items_at placed key) p.0.item has)

  -- the route of a key is that of its recipients
  pub key_route : (key item : ℕ) → Contains placed (placed_at key item) → (numbers_at groups key).route ≡ route_by recipients item
  key_route key item c = (under_route (placed_at key item) c).1

  addresses_ascend : (key : ℕ) → IsAscendingBy path_cmp (group_at key).to
  addresses_ascend key =
      let items = items_at placed key in
      pairs_map (λ a b. path_cmp a b ≡ Less) (address_at recipients) items
      (λ i j d below inside.
      let m = get_or items i d in
      let n = get_or items j d in
      let has_m = item_placed placed key m (Contains-get_or items i d (omega arith)) in
      let has_n = item_placed placed key n (Contains-get_or items j d inside) in
      paths_rise senders routes recipients deliveries order m n (items_ascending placed key placed_ascends i j d below inside) (within (placed_at key n) has_n).1
      (sym (key_route key m has_m) ∙ key_route key n has_n))

  -- ---- what the groups have
  abbrev pub Placed_by : Sender → Route → AddressParts → Type 0
  Placed_by = IsPlacedBy senders routes recipients deliveries

  recipient_known : (n : ℕ) → n < length recipients → (r : Routed) × (slice_get recipients n ≡ Some r) × (r.route ≡ route_by recipients n) × (r.address.now ≡ address_at recipients n)
  recipient_known n b = known recipients b where
    known : (rs : List Routed) → n < length rs → (r : Routed) × (slice_get rs n ≡ Some r) × (r.route ≡ route_by rs n) × (r.address.now ≡ address_at rs n)
    known [] c = absurd (omega arith)
    known (r ∷ rs) c =
        let all = r ∷ rs in
        let x = get_or all n r in
        (x, slice_get-get_or all n r c, sym (get_or-map (λ (y : Routed). y.route) all n r 0 c), sym (get_or-map (λ (y : Routed). y.address.now) all n r no_address c))

  -- what is under a key is placed
  pub placed_under : (key item : ℕ) → Contains placed (placed_at key item) → Placed_by (group_at key).sender (group_at key).route (address_at recipients item)
  placed_under key item c =
      let p = placed_at key item in
      let u = under_route p c in
      let r = recipient_known item (within p c).1 in
      let lists = in_lists key u.0 in
      let route : r.0.route ≡ (numbers_at groups key).route = r.2 ∙ sym u.1 in
      record {
        delivery = delivery_of groups p;
        in_deliveries = has_delivery p c;
        sender_is = slice_get-get_or senders (numbers_at groups key).sender None lists.0;
        recipient = r.0;
        recipient_is = r.1;
        route_is = ap (slice_get routes) route ∙ slice_get-get_or routes (numbers_at groups key).route no_route lists.1;
        address_is = r.3;
      }

  -- a key that has a placed address
  pub record IsUnderKey (sender : Sender) (route : Route) (a : AddressParts) : Type 0 where
    pub key : ℕ
    pub item : ℕ
    pub is_placed : Contains placed (placed_at key item)
    pub sender_is : (group_at key).sender ≡ sender
    pub route_is : (group_at key).route ≡ route
    pub address_is : address_at recipients item ≡ a

  pub under_key : (sender : Sender) (route : Route) (a : AddressParts) → Placed_by sender route a → IsUnderKey sender route a
  under_key sender route a by =
      let p = of_delivery by.delivery by.in_deliveries in
      let key = p.0.key in
      let item = p.0.item in
      let item_is : item ≡ by.delivery.recipient = ap (λ (s : Delivery). s.recipient) p.2 in
      let u = under_route p.0 p.1 in
      let r = recipient_known item (within p.0 p.1).1 in
      let same : Some r.0 ≡ Some by.recipient = sym r.1 ∙ ap (slice_get recipients) item_is ∙ by.recipient_is in
      let one : r.0 ≡ by.recipient = cc in
      record {
        key = key;
        item = item;
        is_placed = p.1;
        sender_is = ap (λ (s : Delivery). sender_at senders s.sender) p.2 ∙ get_or_from_slice_get senders by.delivery.sender sender None by.sender_is;
        route_is = ap (route_at routes) (u.1 ∙ sym r.2 ∙ ap (λ (x : Routed). x.route) one) ∙ get_or_from_slice_get routes by.recipient.route route no_route by.route_is;
        address_is = sym r.3 ∙ ap (λ (x : Routed). x.address.now) one ∙ by.address_is;
      }

  grouped : (sender : Sender) (route : Route) (a : AddressParts) → Placed_by sender route a → IsGrouped all_groups sender route a
  grouped sender route a by =
      let k = under_key sender route a by in
      let p = placed_at k.key k.item in
      record {
        group = group_at k.key;
        in_groups = Contains-map group_at (keys_of placed) k.key (key_in placed p k.is_placed);
        sender_is = k.sender_is;
        route_is = k.route_is;
        in_group = subst (λ b. Contains (group_at k.key).to b) k.address_is (Contains-map (address_at recipients) (items_at placed k.key) k.item (placed_item placed p k.is_placed));
      }

  ungrouped : (sender : Sender) (route : Route) (a : AddressParts) → IsGrouped all_groups sender route a → Placed_by sender route a
  ungrouped sender route a by =
      let k = Contains-from_map group_at (keys_of placed) by.group by.in_groups in
      let has : Contains (group_at k.0).to a = subst (λ (g : Group). Contains g.to a) (sym k.2) by.in_group in
      let n = Contains-from_map (address_at recipients) (items_at placed k.0) a has in
      let sender_is : (group_at k.0).sender ≡ sender = ap (λ (g : Group). g.sender) k.2 ∙ by.sender_is in
      let route_is : (group_at k.0).route ≡ route = ap (λ (g : Group). g.route) k.2 ∙ by.route_is in
      subst (λ s. Placed_by s route a) sender_is
      (subst (λ r. Placed_by (group_at k.0).sender r a) route_is
      (subst (λ b. Placed_by (group_at k.0).sender (group_at k.0).route b) n.2 (placed_under k.0 n.0 (item_placed placed k.0 n.0 n.1))))

  module _ (limit : Transport → ℕ) where
    pub is_grouping : IsGrouping limit Placed_by all_groups
    is_grouping = record {
      ascending = groups_ascend;
      nonempty = λ g c.
          let k = Contains-from_map group_at (keys_of placed) g c in
          subst (λ (h : Group). h.to ≢ []) k.2 (some_in k.0 k.1);
      recipients_ascending = λ g c.
          let k = Contains-from_map group_at (keys_of placed) g c in
          subst (λ (h : Group). IsAscendingBy path_cmp h.to) k.2 (addresses_ascend k.0);
      members = λ sender route a. (grouped sender route a, ungrouped sender route a);
    }

    -- what a transaction of a key stands for
    abbrev pub written : Transaction → Planned
    written t = planned_of senders routes recipients (numbers_at groups t.key) t.items

    abbrev pub of_key : ℕ → List ℕ → Transaction
    of_key key part = record { key = key; items = part }

    module _ (limits : List ℕ) (limits_are : limits ≡ map (λ (g : GroupNumbers). limit (route_at routes g.route).transport) groups) where
      pub limit_is : (key : ℕ) → key < length groups → slice_index limits key ≡ limit (group_at key).route.transport
      limit_is key b =
          ap (λ ls. slice_index ls key) limits_are
          ∙ get_or-map (λ (g : GroupNumbers). limit (route_at routes g.route).transport) groups key (record { sender = 0; route = 0 }) 0 b

      -- a key's batches stand for those of its group
      one_key : (key : ℕ) → key < length groups → map written (cuts.batches_at limits placed key) ≡ batches_of limit Placed_by (group_at key)
      one_key key b =
          let items = items_at placed key in
          let write : List ℕ → Planned = λ part. planned (group_at key) (map (address_at recipients) part) in
          let size = slice_index limits key in
          map_twice written (of_key key) (parts_of size items)
          ∙ sym (map_twice (planned (group_at key)) (map (address_at recipients)) (parts_of size items))
          ∙ sym (ap (map (planned (group_at key))) (parts_of-map (address_at recipients) size items))
          ∙ ap (λ n. map (planned (group_at key)) (parts_of n (group_at key).to)) (limit_is key b)

      pub all_keys : map written (cuts.batches_of limits placed) ≡ flat_map (batches_of limit Placed_by) all_groups
      all_keys =
          let keys = keys_of placed in
          map-flat_map written (cuts.batches_at limits placed) keys
          ∙ flat_map_agree (λ key. map written (cuts.batches_at limits placed key)) (λ key. batches_of limit Placed_by (group_at key)) keys
          (λ i d b. one_key (get_or keys i d) (key_small (get_or keys i d) (Contains-get_or keys i d b)))
          ∙ sym (flat_map-map (batches_of limit Placed_by) group_at keys)

      pub transactions_are : (ts : List Planned) → ts ≡ map written (cuts.batches_of limits placed) → AreTransactionsOf limit Placed_by ts
      transactions_are ts is = record { groups = all_groups; grouping = is_grouping; batches = is ∙ all_keys }
