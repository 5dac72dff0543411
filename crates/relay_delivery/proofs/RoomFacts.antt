-- The rooms of cuts: as they are made, before they are filled, and as they are written.
use Rattle.std.proofs.Common.{◌≡◌, ℕ, ◌+◌, ◌<◌, ◌≤◌, List, [], ◌∷◌, ◌++◌, length, get_or, map, take, Result, Ok, Err, sym, ap, subst, ◌∙◌, arith, inl, inr, vec_capacity}
use Rattle.std.specs.Prelude.{All, IfOk, IsTrue}
use Rattle.std.proofs.lemmas.Bool.{cases_lt}
use Rattle.std.proofs.lemmas.List.{get_or_push, get_or_append_left, length_push, take_more}
use Rattle.relay_rings.specs.declared.batching.Transaction.{Transaction}
use Rattle.relay_delivery.specs.declared.group_numbers.GroupNumbers.{GroupNumbers}
use Rattle.relay_delivery.specs.declared.placing.Placing.{Placing}
use Rattle.relay_delivery.specs.declared.rooms.Room.{Room}
use Rattle.relay_delivery.specs.Cuts.{planned_to, transaction_of, IsWithin}
use Rattle.relay_delivery.specs.Keyed.{numbers_at}
use Rattle.relay_delivery.specs.Placings.{senders_of, routes_of}
use Rattle.relay_delivery.proofs.Lists.{same_maps}
use Rattle.relay_delivery.specs.Rooms.{planned_in, HasGroupIn, IsEmptyRoomOf, IsRoomOf, AreRooms}

-- what stands for a cut past the end of its list
abbrev no_cut : Transaction
no_cut = record { key = 0; items = [] }

module _ (R : Transaction → Room → Type 0) where
  rooms_push : (cuts : List Transaction) (rooms : List Room) (cut : Transaction) (room : Room) → AreRooms R cuts rooms → R cut room → AreRooms R (cuts ++ cut ∷ []) (rooms ++ room ∷ [])
  rooms_push cuts rooms cut room so_far fits = record {
    long = omega (arith, so_far.long, length_push cuts cut, length_push rooms room);
    each = λ k c r within. elim (cases_lt k (length cuts)) [
      | inl before ↦
          subst (λ x. R x (get_or (rooms ++ room ∷ []) k r)) (sym (get_or_append_left cuts (cut ∷ []) c k before))
          (subst (λ y. R (get_or cuts k c) y) (sym (get_or_append_left rooms (room ∷ []) r k (omega (arith, before, so_far.long)))) (so_far.each k c r before))
      | inr late ↦
          (let last : length cuts ≡ k = omega (arith, late, within, length_push cuts cut) in
          subst (λ x. R x (get_or (rooms ++ room ∷ []) k r)) (sym (get_or_push cuts cut c k last))
          (subst (λ y. R cut y) (sym (get_or_push rooms room r k (so_far.long ∙ last))) fits))
    ];
  }

  -- the room of one more cut
  pub rooms_more : (cuts : List Transaction) (rooms : List Room) (i : ℕ) (cut : Transaction) (room : Room) → i < length cuts → cut ≡ get_or cuts i cut → AreRooms R (take i cuts) rooms → R cut room
      → AreRooms R (take (i + 1) cuts) (rooms ++ room ∷ [])
  rooms_more cuts rooms i cut room inside is so_far fits =
      let more : take (i + 1) cuts ≡ take i cuts ++ cut ∷ [] = take_more cuts i cut inside ∙ ap (λ c. take i cuts ++ c ∷ []) (sym is) in
      subst (λ cs. AreRooms R cs (rooms ++ room ∷ [])) (sym more) (rooms_push (take i cuts) rooms cut room so_far fits)

module _ (p : Placing) (groups : List GroupNumbers) (cuts : List Transaction) (rooms : List Room) (within : All (IsWithin p groups) cuts) where
  -- an empty room, before it is filled
  pub room_empty : AreRooms (IsEmptyRoomOf groups) cuts rooms → (i : ℕ) (room : Room) → i < length rooms → room ≡ get_or rooms i room
      → (room.to.items ≡ []) × (length room.items.now ≤ vec_capacity room.to) × All (λ n. n < length p.recipients.items) room.items.now
  room_empty are i room inside is =
      let inside_cuts : i < length cuts = omega (arith, inside, are.long) in
      let cut = get_or cuts i no_cut in
      let at = are.each i no_cut room inside_cuts in
      let here : IsEmptyRoomOf groups (get_or cuts i no_cut) room = subst (λ r. IsEmptyRoomOf groups (get_or cuts i no_cut) r) (sym is) at in (
        here.empty,
        subst (λ (items : List ℕ). length items ≤ vec_capacity room.to) (sym here.items) here.takes,
        subst (λ (items : List ℕ). All (λ n. n < length p.recipients.items) items) (sym here.items) (within i no_cut inside_cuts).recipients,
      )

  module _ (are : AreRooms (IsRoomOf p.recipients.items groups) cuts rooms) where
    pub groups_in : All (HasGroupIn p) rooms
    groups_in i room inside =
        let inside_cuts : i < length cuts = omega (arith, inside, are.long) in
        let at = are.each i no_cut room inside_cuts in
        let w = within i no_cut inside_cuts in
        let P : GroupNumbers → Type 0 = λ g. (g.sender < length p.senders.items) × (g.route < length p.routes.items) in
        subst P (sym at.group) (w.sender, w.route)

    -- full rooms are written as their cuts
    pub rooms_written : All (λ room. IsTrue room.is_full) rooms → map (planned_in p) rooms ≡ map (transaction_of p groups) cuts
    rooms_written full =
        same_maps (transaction_of p groups) (planned_in p) cuts rooms are.long
        (λ k cut room inside.
        let at = are.each k cut room inside in
        let to = at.full (full k room (omega (arith, inside, are.long))) in
        ap (λ g. planned_to (senders_of p.senders.items) (routes_of p.routes.items) g (get_or rooms k room).to.items) at.group
        ∙ ap (planned_to (senders_of p.senders.items) (routes_of p.routes.items) (numbers_at groups (get_or cuts k cut).key)) to)

-- two facts about a value, where there is one, and a third that follows
pub if_ok_both : {X E : Type 0} (r : Result X E) (P Q S : X → Type 0) → ((x : X) → P x → Q x → S x) → IfOk r P → IfOk r Q → IfOk r S
if_ok_both (Ok x) P Q S both p q = both x p q
if_ok_both (Err e) P Q S both p q = tt
