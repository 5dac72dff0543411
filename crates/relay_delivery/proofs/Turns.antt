-- A turn over the deliveries: whether the next delivery's group is the last one, and what is keyed then.
use Rattle.std.proofs.Common.{◌≡◌, ℕ, ◌+◌, ◌-◌, ◌<◌, ◌&&◌, Bool, true, false, not, eqb, Option, Some, None, List, [], ◌∷◌, ◌++◌, length, get_or, refl, sym, ap, ◌∙◌, subst, arith, inl, inr}
use Rattle.std.specs.List.{All, slice_get}
use Rattle.std.specs.Option.{option_eq}
use Rattle.std.proofs.lemmas.Bool.{cases_eq, eqb-true, eq-eqb, not-true, not-false, true≢false, and_parts, and_from}
use Rattle.std.proofs.lemmas.List.{nil_from_length, get_or-map}
use Rattle.std.proofs.lemmas.List.Elements.{All-push, All-weaker}
use Rattle.std.proofs.lemmas.Option.{slice_get-get_or, slice_get_read, slice_get_within, get_or_from_slice_get}
use Rattle.relay_routes.specs.declared.route.Route.{Route}
use Rattle.relay_rings.specs.declared.batching.Placed.{Placed}
use Rattle.relay_delivery.specs.declared.group_numbers.GroupNumbers.{GroupNumbers}
use Rattle.relay_delivery.specs.declared.routed.Routed.{Routed}
use Rattle.relay_delivery.specs.declared.delivery.Delivery.{Delivery}
use Rattle.relay_delivery.specs.Groups.{Sender}
use Rattle.relay_delivery.specs.Keyed.{numbers_at, route_by}
use Rattle.relay_delivery.specs.Placings.{IsInOrder}
use Rattle.relay_delivery.proofs.KeyedSteps.{no_delivery, no_numbers, numbers_of, IsKeyedUpTo, same_group, new_group}
use Rattle.relay_delivery.proofs.Order.{routes_rise}

-- ---- the last group
abbrev pub same_numbers : GroupNumbers → GroupNumbers → Bool
same_numbers g h = eqb g.sender h.sender && eqb g.route h.route

numbers_alike : (g h : GroupNumbers) → same_numbers g h ≡ true → g ≡ h
numbers_alike g h e =
    let numbers : ℕ → ℕ → GroupNumbers = λ s r. record { sender = s; route = r } in
    let parts = and_parts (eqb g.sender h.sender) (eqb g.route h.route) e in
    ap (λ s. numbers s g.route) (eqb-true g.sender h.sender parts.0) ∙ ap (numbers h.sender) (eqb-true g.route h.route parts.1)

numbers_themselves : (g : GroupNumbers) → same_numbers g g ≡ true
numbers_themselves g = and_from (eqb g.sender g.sender) (eqb g.route g.route) (eq-eqb g.sender g.sender refl) (eq-eqb g.route g.route refl)

other_last : (groups : List GroupNumbers) (o : Option GroupNumbers) (g : GroupNumbers) → o ≡ slice_get groups (length groups - 1) → not (option_eq same_numbers o (Some g)) ≡ true → 0 < length groups → numbers_at groups (length groups - 1) ≡ g → ⊥
other_last groups o g is differs some same =
    let there : o ≡ Some g = is ∙ slice_get-get_or groups (length groups - 1) no_numbers (omega arith) ∙ ap Some same in
    let apart : same_numbers g g ≡ false = not-true (same_numbers g g) (sym (ap (λ q. not (option_eq same_numbers q (Some g))) there) ∙ differs) in
    true≢false (sym (numbers_themselves g) ∙ apart)

same_last : (groups : List GroupNumbers) (o : Option GroupNumbers) (g : GroupNumbers) → o ≡ slice_get groups (length groups - 1) → not (option_eq same_numbers o (Some g)) ≡ false → (0 < length groups) × (numbers_at groups (length groups - 1) ≡ g)
same_last groups o g is same =
    elim (cases_eq (length groups) 0) [
      | inl none ↦
          let nothing : o ≡ None = is ∙ ap (λ gs. slice_get gs (length gs - 1)) (nil_from_length groups none) in
          absurd (true≢false (sym (ap (λ q. not (option_eq same_numbers q (Some g))) nothing) ∙ same))
      | inr some ↦
          let h = numbers_at groups (length groups - 1) in
          let there : o ≡ Some h = is ∙ slice_get-get_or groups (length groups - 1) no_numbers (omega arith) in
          let alike : same_numbers h g ≡ true = not-false (same_numbers h g) (sym (ap (λ q. not (option_eq same_numbers q (Some g))) there) ∙ same) in
          (omega arith, numbers_alike h g alike)
    ]

-- a recipient's route, from the recipient
route_read : (recipients : List Routed) (n : ℕ) (r : Routed) → slice_get recipients n ≡ Some r → route_by recipients n ≡ r.route
route_read recipients n r is =
    get_or-map (λ (x : Routed). x.route) recipients n r 0 (slice_get_within recipients n r is) ∙ ap (λ (x : Routed). x.route) (get_or_from_slice_get recipients n r r is)

-- ---- the turn of delivery `i`, of deliveries as they are `read`
module _ (senders : List Sender) (routes : List Route) (recipients : List Routed) (deliveries : List Delivery) (order : IsInOrder senders routes recipients deliveries)
    (i : ℕ) (groups : List GroupNumbers) (placed : List Placed) (keyed : IsKeyedUpTo recipients deliveries i groups placed)
    (read : List Delivery) (read_is : read ≡ deliveries) (b : i < length read)
    (recipient : Routed) (recipient_is : recipient ≡ get_or recipients (get_or read i no_delivery).recipient recipient)
    (after : List GroupNumbers) where
  abbrev pub next : GroupNumbers
  next = record { sender = (get_or read i no_delivery).sender; route = recipient.route }

  here : i < length deliveries
  here = subst (λ (ss : List Delivery). i < length ss) read_is b

  delivery_is : get_or read i no_delivery ≡ get_or deliveries i no_delivery
  delivery_is = ap (λ ss. get_or ss i no_delivery) read_is

  in_recipients : All (λ (s : Delivery). s.recipient < length recipients) deliveries
  in_recipients = All-weaker (λ (s : Delivery). (s.sender < length senders) × (s.recipient < length recipients)) (λ s. s.recipient < length recipients) (λ s in_both. in_both.1) deliveries order.range.to_both

  found : slice_get recipients (get_or read i no_delivery).recipient ≡ Some recipient
  found =
      let inside = subst (λ (s : Delivery). s.recipient < length recipients) (sym delivery_is) (in_recipients i no_delivery here) in
      slice_get_read recipients (length recipients) (get_or read i no_delivery).recipient recipient refl inside recipient_is

  next_is : next ≡ numbers_of recipients (get_or deliveries i no_delivery)
  next_is =
      let numbers : ℕ → ℕ → GroupNumbers = λ s r. record { sender = s; route = r } in
      let route_is : recipient.route ≡ route_by recipients (get_or deliveries i no_delivery).recipient = sym (route_read recipients (get_or read i no_delivery).recipient recipient found) ∙ ap (λ (s : Delivery). route_by recipients s.recipient) delivery_is in
      ap (λ (s : Delivery). numbers s.sender recipient.route) delivery_is ∙ ap (numbers (get_or deliveries i no_delivery).sender) route_is

  module _ (last : Option GroupNumbers) (last_is : last ≡ slice_get groups (length groups - 1)) (more : List Placed) (more_is : more ≡ placed ++ record { key = length after - 1; item = (get_or read i no_delivery).recipient } ∷ []) where
    over : (made : List GroupNumbers) → after ≡ made → IsKeyedUpTo recipients deliveries (i + 1) made (placed ++ record { key = length made - 1; item = (get_or deliveries i no_delivery).recipient } ∷ []) → IsKeyedUpTo recipients deliveries (i + 1) after more
    over made is k =
        let with : List GroupNumbers → Delivery → List Placed = λ gs s. placed ++ record { key = length gs - 1; item = s.recipient } ∷ [] in
        let same : more ≡ with made (get_or deliveries i no_delivery) = more_is ∙ ap (λ gs. with gs (get_or read i no_delivery)) is ∙ ap (with made) delivery_is in
        subst (λ gs. IsKeyedUpTo recipients deliveries (i + 1) gs more) (sym is) (subst (λ ps. IsKeyedUpTo recipients deliveries (i + 1) made ps) (sym same) k)

    pub turn_same : not (option_eq same_numbers last (Some next)) ≡ false → after ≡ groups → IsKeyedUpTo recipients deliveries (i + 1) after more
    turn_same same is =
        let s = same_last groups last next last_is same in
        over groups is (same_group recipients deliveries order.deliveries_ascending in_recipients (routes_rise senders routes recipients deliveries order) i groups placed keyed here s.0 (s.1 ∙ next_is))

    pub turn_new : not (option_eq same_numbers last (Some next)) ≡ true → after ≡ groups ++ next ∷ [] → IsKeyedUpTo recipients deliveries (i + 1) after more
    turn_new differs is =
        over (groups ++ numbers_of recipients (get_or deliveries i no_delivery) ∷ []) (is ∙ ap (λ g. groups ++ g ∷ []) next_is)
        (new_group recipients deliveries order.deliveries_ascending in_recipients (routes_rise senders routes recipients deliveries order) i groups placed keyed here
        (λ some e. other_last groups last next last_is differs some (e ∙ sym next_is)))

  -- the next group is in range where the others are
  module _ (m n : ℕ) (senders_are : length senders ≡ m) (routes_are : length routes ≡ n) (range : All (λ (g : GroupNumbers). (g.sender < m) × (g.route < n)) groups) where
    pub range_same : after ≡ groups → All (λ (g : GroupNumbers). (g.sender < m) × (g.route < n)) after
    range_same is = subst (λ gs. All (λ (g : GroupNumbers). (g.sender < m) × (g.route < n)) gs) (sym is) range

    pub range_new : after ≡ groups ++ next ∷ [] → All (λ (g : GroupNumbers). (g.sender < m) × (g.route < n)) after
    range_new is =
        let number = (get_or read i no_delivery).recipient in
        let both = order.range.to_both i no_delivery here in
        let sender : (get_or deliveries i no_delivery).sender < length senders = both.0 in
        let same : (get_or read i no_delivery).sender ≡ (get_or deliveries i no_delivery).sender = ap (λ (s : Delivery). s.sender) delivery_is in
        let route : (get_or recipients number recipient).route < length routes = order.range.to_routes number recipient (slice_get_within recipients number recipient found) in
        let read_route : (get_or recipients number recipient).route ≡ recipient.route = ap (λ (r : Routed). r.route) (sym recipient_is) in
        subst (λ gs. All (λ (g : GroupNumbers). (g.sender < m) × (g.route < n)) gs) (sym is)
        (All-push (λ (g : GroupNumbers). (g.sender < m) × (g.route < n)) groups next range (omega arith, omega arith))
