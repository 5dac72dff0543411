-- One more delivery under its key.
use Rattle.std.proofs.Common.{◌≡◌, ◌⊎◌, ℕ, ◌+◌, ◌-◌, ◌<◌, ◌≤◌, List, [], ◌∷◌, ◌++◌, length, get_or, take, refl, sym, ap, ◌∙◌, arith, inl, inr}
use Rattle.std.specs.List.{All, AllPairs}
use Rattle.std.proofs.lemmas.Bool.{cases_lt, cases_eq}
use Rattle.std.proofs.lemmas.List.{length_push, get_or_append_left, get_or_push, get_or_default, take_more, map_push}
use Rattle.std.proofs.lemmas.List.Elements.{All-push, All-weaker}
use Rattle.std.proofs.lemmas.List.Quantifiers.{all_pairs_push}
use Rattle.relay_rings.specs.declared.batching.Placed.{Placed}
use Rattle.relay_delivery.specs.declared.group_numbers.GroupNumbers.{GroupNumbers}
use Rattle.relay_delivery.specs.declared.routed.Routed.{Routed}
use Rattle.relay_delivery.specs.declared.delivery.Delivery.{Delivery}
use Rattle.relay_delivery.specs.Keyed.{group_below, numbers_at, route_by, delivery_of, IsUnderRoute, AreKeyed}
use Rattle.relay_delivery.specs.Placings.{delivery_below}
use Rattle.relay_delivery.proofs.Lists.{map_agree}

abbrev pub no_delivery : Delivery
no_delivery = record { sender = 0; recipient = 0 }

abbrev pub no_numbers : GroupNumbers
no_numbers = record { sender = 0; route = 0 }

-- not after a group
abbrev pub at_most : GroupNumbers → GroupNumbers → Type 0
at_most g h = (g.sender < h.sender) ⊎ ((g.sender ≡ h.sender) × (g.route ≤ h.route))

abbrev pub numbers_of : List Routed → Delivery → GroupNumbers
numbers_of recipients s = record { sender = s.sender; route = route_by recipients s.recipient }

-- what a loop over the deliveries has made of the first `i`
pub record IsKeyedUpTo (recipients : List Routed) (deliveries : List Delivery) (i : ℕ) (groups : List GroupNumbers) (placed : List Placed) : Type 0 where
  pub keyed : AreKeyed recipients (take i deliveries) groups placed
  pub few : length groups ≤ i
  pub before : i < length deliveries → All (λ g. at_most g (numbers_of recipients (get_or deliveries i no_delivery))) groups

below_from : (g h : GroupNumbers) → at_most g h → (g ≡ h → ⊥) → group_below g h
below_from g h most ne =
    let numbers : ℕ → ℕ → GroupNumbers = λ s r. record { sender = s; route = r } in
    elim most [
      | inl l ↦ inl l
      | inr e ↦
          elim (cases_lt g.route h.route) [
            | inl l ↦ inr (e.0, l)
            | inr back ↦
                let low : g.route ≤ h.route = e.1 in
                let same : g.route ≡ h.route = omega arith in
                absurd (ne (ap (λ s. numbers s g.route) e.0 ∙ ap (numbers h.sender) same))
          ]
    ]

most_trans : (f g h : GroupNumbers) → at_most f g → at_most g h → at_most f h
most_trans f g h a b =
    elim a [
      | inl l ↦ elim b [ inl m ↦ inl (omega arith) | inr m ↦ inl (omega (arith, m.0)) ]
      | inr l ↦ elim b [ inl m ↦ inl (omega (arith, l.0)) | inr m ↦ inr (l.0 ∙ m.0, omega (arith, l.1, m.1)) ]
    ]

below_trans : (f g h : GroupNumbers) → group_below f g → at_most g h → group_below f h
below_trans f g h a b =
    elim a [
      | inl l ↦ elim b [ inl m ↦ inl (omega arith) | inr m ↦ inl (omega (arith, m.0)) ]
      | inr l ↦ elim b [ inl m ↦ inl (omega (arith, l.0)) | inr m ↦ inr (l.0 ∙ m.0, omega (arith, l.1, m.1)) ]
    ]

pub nothing_keyed : (recipients : List Routed) (deliveries : List Delivery) → IsKeyedUpTo recipients deliveries 0 [] []
nothing_keyed recipients deliveries = record {
  keyed = record { ascending = λ i j d a b. absurd (omega arith); under_routes = λ i d b. absurd (omega arith); in_turn = refl };
  few = omega arith;
  before = λ _ i d b. absurd (omega arith);
}

module _ (recipients : List Routed) (deliveries : List Delivery) (order : AllPairs delivery_below deliveries) (range : All (λ s. s.recipient < length recipients) deliveries)
    (rising : (m n : ℕ) → m < n → n < length recipients → route_by recipients m ≤ route_by recipients n) where
  -- the groups of one delivery and the next one
  climbs : (i : ℕ) → i + 1 < length deliveries → at_most (numbers_of recipients (get_or deliveries i no_delivery)) (numbers_of recipients (get_or deliveries (i + 1) no_delivery))
  climbs i b =
      let s = get_or deliveries i no_delivery in
      let t = get_or deliveries (i + 1) no_delivery in
      elim (order i (i + 1) no_delivery (omega arith) b) [
        | inl l ↦ inl l
        | inr e ↦ inr (e.0, rising s.recipient t.recipient e.1 (range (i + 1) no_delivery b))
      ]

  -- what the groups were, they are, and the last one is the delivery's
  step : (i : ℕ) (groups more : List GroupNumbers) (placed : List Placed) → IsKeyedUpTo recipients deliveries i groups placed → i < length deliveries
      → AllPairs group_below more → 0 < length more → length more ≤ i + 1
      → ((k : ℕ) → k < length groups → (k < length more) × (numbers_at more k ≡ numbers_at groups k))
      → numbers_at more (length more - 1) ≡ numbers_of recipients (get_or deliveries i no_delivery)
      → All (λ g. at_most g (numbers_of recipients (get_or deliveries i no_delivery))) more
      → IsKeyedUpTo recipients deliveries (i + 1) more (placed ++ record { key = length more - 1; item = (get_or deliveries i no_delivery).recipient } ∷ [])
  step i groups more placed inv b ascending some few kept last before =
      let s = get_or deliveries i no_delivery in
      let p : Placed = record { key = length more - 1; item = s.recipient } in
      let delivery_by : ℕ → GroupNumbers → Delivery = λ item g. record { sender = g.sender; recipient = item } in
      let agree : All (λ q. delivery_of more q ≡ delivery_of groups q) placed =
      All-weaker (IsUnderRoute recipients groups) (λ q. delivery_of more q ≡ delivery_of groups q) (λ q u. ap (delivery_by q.item) (kept q.key u.0).1) placed inv.keyed.under_routes in
      record {
        keyed = record {
          ascending = ascending;
          under_routes = All-push (IsUnderRoute recipients more) placed p
              (All-weaker (IsUnderRoute recipients groups) (IsUnderRoute recipients more)
              (λ q u.
              let k = kept q.key u.0 in
              (k.0, ap (λ (g : GroupNumbers). g.route) k.1 ∙ u.1))
              placed inv.keyed.under_routes)
              (omega arith, ap (λ (g : GroupNumbers). g.route) last);
          in_turn = map_push (delivery_of more) placed p
              ∙ ap (λ ss. ss ++ delivery_of more p ∷ []) (map_agree (delivery_of more) (delivery_of groups) placed agree ∙ inv.keyed.in_turn)
              ∙ ap (λ t. take i deliveries ++ t ∷ []) (ap (delivery_by s.recipient) last)
              ∙ sym (take_more deliveries i no_delivery b);
        };
        few = few;
        before = λ c. All-weaker (λ g. at_most g (numbers_of recipients s)) (λ g. at_most g (numbers_of recipients (get_or deliveries (i + 1) no_delivery))) (λ g h. most_trans g (numbers_of recipients s) (numbers_of recipients (get_or deliveries (i + 1) no_delivery)) h (climbs i c)) more before;
      }

  pub same_group : (i : ℕ) (groups : List GroupNumbers) (placed : List Placed) → IsKeyedUpTo recipients deliveries i groups placed → i < length deliveries
      → 0 < length groups → numbers_at groups (length groups - 1) ≡ numbers_of recipients (get_or deliveries i no_delivery)
      → IsKeyedUpTo recipients deliveries (i + 1) groups (placed ++ record { key = length groups - 1; item = (get_or deliveries i no_delivery).recipient } ∷ [])
  same_group i groups placed inv b some last =
      let few : length groups ≤ i = inv.few in
      step i groups groups placed inv b inv.keyed.ascending some (omega arith) (λ k c. (c, refl)) last (inv.before b)

  pub new_group : (i : ℕ) (groups : List GroupNumbers) (placed : List Placed) → IsKeyedUpTo recipients deliveries i groups placed → i < length deliveries
      → (0 < length groups → numbers_at groups (length groups - 1) ≡ numbers_of recipients (get_or deliveries i no_delivery) → ⊥)
      → IsKeyedUpTo recipients deliveries (i + 1) (groups ++ numbers_of recipients (get_or deliveries i no_delivery) ∷ []) (placed ++ record { key = length (groups ++ numbers_of recipients (get_or deliveries i no_delivery) ∷ []) - 1; item = (get_or deliveries i no_delivery).recipient } ∷ [])
  new_group i groups placed inv b ne =
      let g = numbers_of recipients (get_or deliveries i no_delivery) in
      let more = groups ++ g ∷ [] in
      let few : length groups ≤ i = inv.few in
      let long : length more ≡ length groups + 1 = length_push groups g in
      let below : (k : ℕ) (d : GroupNumbers) → k < length groups → group_below (get_or groups k d) g = λ k d c.
      let most : at_most (get_or groups k d) g = inv.before b k d c in
      elim (cases_eq k (length groups - 1)) [
        | inl e ↦
            below_from (get_or groups k d) g most
            (λ same. ne (omega arith) (ap (λ n. numbers_at groups n) (sym e) ∙ get_or_default groups k no_numbers d c ∙ same))
        | inr other ↦
            let l = length groups - 1 in
            below_trans (get_or groups k d) (get_or groups l d) g (inv.keyed.ascending k l d (omega arith) (omega arith)) (inv.before b l d (omega arith))
      ] in
      step i groups more placed inv b (all_pairs_push group_below groups g inv.keyed.ascending below) (omega arith) (omega arith)
      (λ k c. (omega arith, get_or_append_left groups (g ∷ []) no_numbers k c))
      (get_or_push groups g no_numbers (length more - 1) (omega arith))
      (All-push (λ h. at_most h g) groups g (inv.before b) (inr (refl, omega arith)))
