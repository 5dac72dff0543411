-- Where trails end.
use Rattle.std.proofs.Common.{◌≡◌, ℕ, List, [], ◌∷◌, ◌++◌, slice_get, Contains, Option, Some, None, refl, sym, ap, ◌∙◌, inl, inr, ◌⊎◌}
use Rattle.std.specs.Option.{option_map, option_and_then}
use Rattle.std.proofs.lemmas.Option.{none-some, slice_get-get_or}
use Rattle.relay_rounds.specs.Walks.{IsWalk}
use Rattle.relay_tables.specs.GraphParts.{GraphParts}
use Rattle.relay_tables.specs.Graphs.{child_numbers, sender_number_after}
use Rattle.relay_pairs.specs.declared.reached.Reached.{Reached}
use Rattle.relay_pairs.specs.Pairs.{IsRoot, IsStep, IsReachedPair}
use Rattle.relay_pairs.proofs.Walking.{reached_start, reached_step}
use Rattle.relay_trails.specs.Trails.{Trail, pair_of_recipient, pair_after, pair_along, ends_in}
use Rattle.relay_trails.specs.Steps.{with_item}

pub option_cases : {X : Type 0} (o : Option X) → (o ≡ None) ⊎ ((x : X) × (o ≡ Some x))
option_cases None = inl refl
option_cases (Some x) = inr (x, refl)

pub get_contained : {X : Type 0} (xs : List X) (x : X) → Contains xs x → (i : ℕ) × (slice_get xs i ≡ Some x)
get_contained xs x c = (c.0, slice_get-get_or xs c.0 x c.1 ∙ ap Some c.2)

pub pair_is : (p q : Reached) → p.sender ≡ q.sender → p.node ≡ q.node → p ≡ q
pair_is p q s n =
    let half : p ≡ record { sender = q.sender; node = p.node } = ap (λ (x : ℕ). record { sender = x; node = p.node }) s in
    half ∙ ap (λ (x : ℕ). record { sender = q.sender; node = x }) n

module _ (g : GraphParts) where
  pub along_none : (items : List ℕ) → pair_along g None items ≡ None
  along_none [] = refl
  along_none (i ∷ items) = along_none items

  -- a trail that ends somewhere starts somewhere
  pub along_some : (from : Option Reached) (items : List ℕ) (pair : Reached) → pair_along g from items ≡ Some pair → (first : Reached) × (from ≡ Some first)
  along_some None items pair h = absurd (none-some pair (sym (along_none items) ∙ h))
  along_some (Some first) items pair h = (first, refl)

  along_item : (from : Option Reached) (items : List ℕ) (i : ℕ) → pair_along g from (items ++ i ∷ []) ≡ option_and_then (pair_after g i) (pair_along g from items)
  along_item from [] i = refl
  along_item from (x ∷ items) i = along_item (option_and_then (pair_after g x) from) items i

  pub ends_item : (t : Trail) (i : ℕ) (pair : Reached) → ends_in g t ≡ Some pair → ends_in g (with_item t i) ≡ pair_after g i pair
  ends_item t i pair e = along_item (pair_of_recipient g t.recipient) t.items i ∙ ap (option_and_then (pair_after g i)) e

  pub ends_recipient : (r n : ℕ) → slice_get g.roots r ≡ Some n → pair_of_recipient g r ≡ Some (record { sender = 0; node = n })
  ends_recipient r n e = ap (option_map (λ (n : ℕ). record { sender = 0; node = n })) e

  pub after_item : (i : ℕ) (pair : Reached) (n : ℕ) → slice_get (child_numbers g pair.node) i ≡ Some n → pair_after g i pair ≡ Some (record { sender = sender_number_after g pair.sender pair.node; node = n })
  after_item i pair n e = ap (option_map (λ (n : ℕ). record { sender = sender_number_after g pair.sender pair.node; node = n })) e

  trail_on : (a b : Reached) (path : List Reached) → IsWalk (IsStep g) a path b → (t : Trail) → ends_in g t ≡ Some a → (u : Trail) × (ends_in g u ≡ Some b)
  trail_on a b [] walk t e = (t, e ∙ ap Some walk)
  trail_on a b (x ∷ path) walk t e =
      let step = walk.0 in
      let i = get_contained (child_numbers g a.node) x.node step.child in
      let next : Reached = record { sender = sender_number_after g a.sender a.node; node = x.node } in
      let same : next ≡ x = pair_is next x (sym step.sender) refl in
      trail_on x b path walk.1 (with_item t i.0) (ends_item t i.0 a e ∙ after_item i.0 a x.node i.1 ∙ ap Some same)

  -- a trail ends in each pair that is reached
  pub has_trail : (pair : Reached) → IsReachedPair g pair → (t : Trail) × (ends_in g t ≡ Some pair)
  has_trail pair r =
      let from : Reached = r.0 in
      let start = r.2 in
      let i = get_contained g.roots from.node start.node in
      let first : Reached = record { sender = 0; node = from.node } in
      let same : first ≡ from = pair_is first from (sym start.sender) refl in
      trail_on from pair r.1 r.3 (record { recipient = i.0; items = [] }) (ends_recipient i.0 from.node i.1 ∙ ap Some same)

pub root_reached : (g : GraphParts) (n : ℕ) → Contains g.roots n → IsReachedPair g (record { sender = 0; node = n })
root_reached g n c =
    let root : IsRoot g (record { sender = 0; node = n }) = record { sender = refl; node = c } in
    reached_start (IsRoot g) (IsStep g) (record { sender = 0; node = n }) root

pub child_reached : (g : GraphParts) (pair : Reached) (n : ℕ) → IsReachedPair g pair → Contains (child_numbers g pair.node) n → IsReachedPair g (record { sender = sender_number_after g pair.sender pair.node; node = n })
child_reached g pair n r c =
    let next : Reached = record { sender = sender_number_after g pair.sender pair.node; node = n } in
    let step : IsStep g pair next = record { child = c; sender = refl } in
    reached_step (IsRoot g) (IsStep g) pair next r step
