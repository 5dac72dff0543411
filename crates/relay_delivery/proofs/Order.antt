-- The order of a plan, by numbers.
use Rattle.std.proofs.Common.{◌≡◌, ◌⊎◌, ℕ, ◌<◌, ◌≤◌, List, [], ◌∷◌, length, get_or, map, sym, ap, ◌∙◌, subst, arith, inl, inr}
use Rattle.std.specs.Prelude.{Some, None}
use Rattle.std.specs.List.{AllPairs}
use Rattle.std.specs.declared.cmp.Ordering.TheVariants.{Less, Equal}
use Rattle.std.specs.Ordering.{ordering_then}
use Rattle.std.proofs.lemmas.Bool.{cases_order}
use Rattle.std.proofs.lemmas.Cmp.{nat_list_cmp_total, tied_itself}
use Rattle.std.proofs.lemmas.List.{get_or-map, length-map}
use Rattle.relay_text.specs.AddressParts.{AddressParts}
use Rattle.relay_text.specs.Addresses.{path_text_of}
use Rattle.relay_text.specs.TextSets.{text_cmp}
use Rattle.relay_routes.specs.declared.route.Route.{Route}
use Rattle.relay_routes.specs.Transports.{transport_name}
use Rattle.relay_delivery.specs.declared.group_numbers.GroupNumbers.{GroupNumbers}
use Rattle.relay_delivery.specs.declared.routed.Routed.{Routed}
use Rattle.relay_delivery.specs.declared.delivery.Delivery.{Delivery}
use Rattle.relay_delivery.specs.Cuts.{no_route, sender_at, route_at, address_at, group_of}
use Rattle.relay_delivery.specs.Groups.{Group, Sender, DeliveryKey, route_cmp, group_cmp, path_cmp}
use Rattle.relay_delivery.specs.Keyed.{group_below, route_by}
use Rattle.relay_delivery.specs.Placings.{IsInOrder}

pub never_less : Equal ≡ Less → ⊥
never_less e = cc

tied_texts : (xs ys : List ℕ) → xs ≡ ys → text_cmp xs ys ≡ Equal
tied_texts xs ys e = ap (text_cmp xs) (sym e) ∙ tied_itself nat_list_cmp_total xs

-- an element of a list that has any
some_element : {X : Type 0} (xs : List X) → 0 < length xs → X
some_element [] b = absurd (omega arith)
some_element (x ∷ xs) b = x

pub pairs_map : {X Y : Type 0} (R : Y → Y → Type 0) (f : X → Y) (xs : List X) → ((i j : ℕ) (d : X) → i < j → j < length xs → R (f (get_or xs i d)) (f (get_or xs j d))) → AllPairs R (map f xs)
pairs_map R f xs h i j e below inside =
    let long = length-map xs f in
    let within : j < length xs = omega arith in
    let d = some_element xs (omega arith) in
    let first : R (get_or (map f xs) i e) (f (get_or xs j d)) = subst (λ y. R y (f (get_or xs j d))) (sym (get_or-map f xs i d e (omega arith))) (h i j d below within) in
    subst (λ y. R (get_or (map f xs) i e) y) (sym (get_or-map f xs j d e within)) first

-- what a transaction of a group delivers by
abbrev pub group_key : Group → DeliveryKey
group_key g = record { sender = g.sender; transport = g.route.transport; nexthop = g.route.nexthop }

-- groups of one key stand in one place of the order
pub groups_tied : (g h : Group) → group_key g ≡ group_key h → group_cmp g h ≡ Equal
groups_tied g h e =
    let by_transport = text_cmp (transport_name g.route.transport) (transport_name h.route.transport) in
    let by_nexthop = text_cmp g.route.nexthop h.route.nexthop in
    ap (λ o. ordering_then o (ordering_then by_transport by_nexthop)) (tied_texts (path_text_of g.sender) (path_text_of h.sender) (ap (λ (k : DeliveryKey). path_text_of k.sender) e))
    ∙ ap (λ o. ordering_then o by_nexthop) (tied_texts (transport_name g.route.transport) (transport_name h.route.transport) (ap (λ (k : DeliveryKey). transport_name k.transport) e))
    ∙ tied_texts g.route.nexthop h.route.nexthop (ap (λ (k : DeliveryKey). k.nexthop) e)

module _ (senders : List Sender) (routes : List Route) (recipients : List Routed) (deliveries : List Delivery) (order : IsInOrder senders routes recipients deliveries) where
  abbrev pub InLists : GroupNumbers → Type 0
  InLists g = (g.sender < length senders) × (g.route < length routes)

  -- what two recipients are, by number
  recipients_below : (m n : ℕ) → m < n → n < length recipients → (route_by recipients m < route_by recipients n) ⊎ ((route_by recipients m ≡ route_by recipients n) × (path_cmp (address_at recipients m) (address_at recipients n) ≡ Less))
  recipients_below m n l b =
      let blank : AddressParts = record { local = []; domain = [] } in
      let route : Routed → ℕ = λ r. r.route in
      let address : Routed → AddressParts = λ r. r.address.now in
      let d = some_element recipients (omega arith) in
      let low : m < length recipients = omega arith in
      let route_m : route_by recipients m ≡ (get_or recipients m d).route = get_or-map route recipients m d 0 low in
      let route_n : route_by recipients n ≡ (get_or recipients n d).route = get_or-map route recipients n d 0 b in
      let address_m : address_at recipients m ≡ (get_or recipients m d).address.now = get_or-map address recipients m d blank low in
      let address_n : address_at recipients n ≡ (get_or recipients n d).address.now = get_or-map address recipients n d blank b in
      elim (order.recipients_ascending m n d l b) [
        | inl less ↦ inl (omega (arith, route_m, route_n))
        | inr e ↦
            inr (
              route_m ∙ e.0 ∙ sym route_n,
              ap (λ a. path_cmp a (address_at recipients n)) address_m ∙ ap (path_cmp (get_or recipients m d).address.now) address_n ∙ e.1,
            )
      ]

  pub routes_rise : (m n : ℕ) → m < n → n < length recipients → route_by recipients m ≤ route_by recipients n
  routes_rise m n l b = elim (recipients_below m n l b) [ inl less ↦ omega arith | inr e ↦ omega (arith, e.0) ]

  pub paths_rise : (m n : ℕ) → m < n → n < length recipients → route_by recipients m ≡ route_by recipients n → path_cmp (address_at recipients m) (address_at recipients n) ≡ Less
  paths_rise m n l b same = elim (recipients_below m n l b) [ inl less ↦ absurd (omega arith) | inr e ↦ e.1 ]

  -- a route and an address have one recipient
  pub one_recipient : (m n : ℕ) → m < length recipients → n < length recipients → route_by recipients m ≡ route_by recipients n → address_at recipients m ≡ address_at recipients n → m ≡ n
  one_recipient m n b c route address =
      let path : ℕ → List ℕ = λ k. path_text_of (Some (address_at recipients k)) in
      let same : path m ≡ path n = ap (λ a. path_text_of (Some a)) address in
      elim (cases_order m n) [
        | inl e ↦ e
        | inr apart ↦
            elim apart [
              | inl l ↦ absurd (never_less (sym (tied_texts (path m) (path n) same) ∙ paths_rise m n l c route))
              | inr l ↦ absurd (never_less (sym (tied_texts (path n) (path m) (sym same)) ∙ paths_rise n m l b (sym route)))
            ]
      ]

  -- groups in the order of their numbers
  pub groups_rise : (g h : GroupNumbers) (xs ys : List ℕ) → InLists h → group_below g h → group_cmp (group_of senders routes recipients g xs) (group_of senders routes recipients h ys) ≡ Less
  groups_rise g h xs ys within below =
      let s = sender_at senders in
      let r = route_at routes in
      let rest = route_cmp (r g.route) (r h.route) in
      elim below [
        | inl l ↦ ap (λ o. ordering_then o rest) (order.senders_ascending g.sender h.sender None l within.0)
        | inr e ↦
            ap (λ o. ordering_then o rest) (tied_texts (path_text_of (s g.sender)) (path_text_of (s h.sender)) (ap (λ n. path_text_of (s n)) e.0))
            ∙ order.routes_ascending g.route h.route no_route e.1 within.1
      ]
