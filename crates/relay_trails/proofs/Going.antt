-- A search goes on from the recipients to the items, and from one step's items to the next one's.
use Rattle.std.proofs.Common.{◌≡◌, ◌≢◌, ℕ, ◌+◌, ◌<◌, ◌≤◌, List, length, get_or, map, slice_get, AllPairs, Contains, Option, Some, None, sym, ap, ◌∙◌, subst, inl, inr, arith}
use Rattle.std.specs.Option.{option_map}
use Rattle.std.proofs.lemmas.Bool.{cases_lt}
use Rattle.std.proofs.lemmas.Bool.Decides.{Decides-eqb}
use Rattle.std.proofs.lemmas.List.{length-map, get_or-map}
use Rattle.std.proofs.lemmas.List.Elements.{Contains-get_or}
use Rattle.std.proofs.lemmas.Map.Made.{IsDistinct-from_AllPairs}
use Rattle.std.proofs.lemmas.Map.Steps.{length-le_from_distinct_below}
use Rattle.std.proofs.lemmas.Map.Views.{Contains-from_any}
use Rattle.std.proofs.lemmas.Option.{none-some, same_Some, get_or_from_slice_get, slice_get-get_or, slice_get_past, slice_get_within}
use Rattle.relay_tables.specs.GraphParts.{GraphParts}
use Rattle.relay_tables.specs.Graphs.{child_numbers, sender_number_after}
use Rattle.relay_pairs.specs.declared.reached.Reached.{Reached}
use Rattle.relay_pairs.specs.Pairs.{ArePairs}
use Rattle.relay_trails.specs.declared.step.Link.{Link}
use Rattle.relay_trails.specs.declared.step.Link.TheVariants.{Recipient, Item}
use Rattle.relay_trails.specs.declared.step.Step.{Step}
use Rattle.relay_trails.specs.Trails.{ends_in, pair_after, pair_of_recipient}
use Rattle.relay_trails.specs.Steps.{IsEarlier, IsTaken, link_at, next_trail, no_step, place_at, trail_at}
use Rattle.relay_trails.specs.Searches.{IsAt, IsCovered, IsSearch, no_pair, pair_in, step_of}
use Rattle.relay_trails.proofs.Ends.{after_item, child_reached, ends_item, ends_recipient}
use Rattle.relay_trails.proofs.Taking.{taken_at}

-- the steps have places of their own, so there are no more of them than places
module _ (g : GraphParts) (pairs : List Reached) (found : List (Option ℕ)) (steps : List Step) (search : IsSearch g pairs found steps) where
  place_is : (k d : ℕ) → k < length steps → get_or (map (λ (s : Step). s.place) steps) k d ≡ place_at steps k
  place_is k d h = get_or-map (λ (s : Step). s.place) steps k no_step d h

  places_apart : AllPairs (λ x y. x ≢ y) (map (λ (s : Step). s.place) steps)
  places_apart i j d before short same =
      let long : length (map (λ (s : Step). s.place) steps) ≡ length steps = length-map steps (λ (s : Step). s.place) in
      let j_short : j < length steps = omega (arith, short) in
      let i_short : i < length steps = omega (arith, before) in
      let e : place_at steps i ≡ place_at steps j = sym (place_is i d i_short) ∙ same ∙ place_is j d j_short in
      let n : i ≡ j = same_Some i j (sym (search.places i i_short).1 ∙ ap (step_of found) e ∙ (search.places j j_short).1) in
      omega (arith, n, before)

  places_below : (p : ℕ) → Contains (map (λ (s : Step). s.place) steps) p → p < length pairs
  places_below p c =
      let long : length (map (λ (s : Step). s.place) steps) ≡ length steps = length-map steps (λ (s : Step). s.place) in
      let short : c.0 < length (map (λ (s : Step). s.place) steps) = c.1 in
      let k_short : c.0 < length steps = omega (arith, short, long) in
      subst (λ (q : ℕ). q < length pairs) (sym (place_is c.0 p k_short) ∙ c.2) (search.places c.0 k_short).0

  pub steps_fit : length steps ≤ length pairs
  steps_fit =
      let long : length (map (λ (s : Step). s.place) steps) ≡ length steps = length-map steps (λ (s : Step). s.place) in
      let short : length (map (λ (s : Step). s.place) steps) ≤ length pairs =
      length-le_from_distinct_below (map (λ (s : Step). s.place) steps) (length pairs) (IsDistinct-from_AllPairs Decides-eqb (map (λ (s : Step). s.place) steps) places_apart)
      (λ k found. places_below k (Contains-from_any (λ x y e. (Decides-eqb x y).0 e) k (map (λ (s : Step). s.place) steps) found)) in
      omega (arith, short, long)

to_items : (a : Link) (r : ℕ) → IsEarlier a (Recipient r) → IsEarlier a (Item 0 0)
to_items (Recipient q) r h = tt
to_items (Item k i) r h = elim h [ ]

to_next : (a : Link) (k i : ℕ) → IsEarlier a (Item k i) → IsEarlier a (Item (k + 1) 0)
to_next (Recipient q) k i h = tt
to_next (Item j h) k i e = elim e [ inl less ↦ inl (omega arith) | inr same ↦ let s = same.0 in inl (omega arith) ]

module _ (g : GraphParts) (pairs : List Reached) (found : List (Option ℕ)) (steps : List Step) where
  -- a recipient is taken
  pub recipient_taken : (r n place : ℕ) → IsAt g pairs found steps (Recipient r) → slice_get g.roots r ≡ Some n → place < length pairs → pair_in pairs place ≡ record { sender = 0; node = n } → (found_after : List (Option ℕ)) (steps_after : List Step) → IsTaken place (record { sender = 0; node = n }) (Recipient r) found steps found_after steps_after → IsAt g pairs found_after steps_after (Recipient (r + 1))
  recipient_taken r n place at root inside same found_after steps_after taken =
      taken_at g pairs found steps (Recipient r) at tt place inside (ends_recipient g r n root ∙ ap Some (sym same)) (record { sender = 0; node = n }) (sym same) found_after steps_after taken

  -- an item is taken
  pub item_taken : (k i n place : ℕ) (to : Reached) → to ≡ pair_in pairs place → k < length steps → IsAt g pairs found steps (Item k i) → slice_get (child_numbers g (pair_in pairs (place_at steps k)).node) i ≡ Some n → place < length pairs → pair_in pairs place ≡ record { sender = sender_number_after g (pair_in pairs (place_at steps k)).sender (pair_in pairs (place_at steps k)).node; node = n } → (found_after : List (Option ℕ)) (steps_after : List Step) → IsTaken place to (Item k i) found steps found_after steps_after → IsAt g pairs found_after steps_after (Item k (i + 1))
  item_taken k i n place to to_is h at child inside same found_after steps_after taken =
      let pair : Reached = pair_in pairs (place_at steps k) in
      taken_at g pairs found steps (Item k i) at h place inside (ends_item g (trail_at steps k) i pair (at.search.ends k h) ∙ after_item g i pair n child ∙ ap Some (sym same)) to to_is found_after steps_after taken

  -- there is no such recipient
  covered_recipients : (r : ℕ) → IsAt g pairs found steps (Recipient r) → length g.roots ≤ r → (a : Link) (pair : Reached) → IsEarlier a (Item 0 0) → ends_in g (next_trail steps a) ≡ Some pair → IsCovered pairs steps (next_trail steps a) pair
  covered_recipients r at all (Recipient q) pair early e =
      elim (cases_lt q r) [
        | inl less ↦ at.covered (Recipient q) pair less e
        | inr no_less ↦
            let none : pair_of_recipient g q ≡ None = ap (option_map (λ (n : ℕ). record { sender = 0; node = n })) (slice_get_past g.roots q (omega arith)) in
            absurd (none-some pair (sym none ∙ e))
      ]
  covered_recipients r at all (Item j h) pair early e = elim early [ inl less ↦ absurd (omega arith) | inr same ↦ let less = same.1 in absurd (omega arith) ]

  pub recipients_end : (r : ℕ) → IsAt g pairs found steps (Recipient r) → length g.roots ≤ r → IsAt g pairs found steps (Item 0 0)
  recipients_end r at all =
      record {
        search = at.search;
        earlier = λ k below. to_items (link_at steps k) r (at.earlier k below);
        covered = covered_recipients r at all;
      }

  -- there is no such item
  covered_items : (k i : ℕ) → k < length steps → IsAt g pairs found steps (Item k i) → length (child_numbers g (pair_in pairs (place_at steps k)).node) ≤ i → (a : Link) (pair : Reached) → IsEarlier a (Item (k + 1) 0) → ends_in g (next_trail steps a) ≡ Some pair → IsCovered pairs steps (next_trail steps a) pair
  covered_items k i below at all (Recipient q) pair early e = at.covered (Recipient q) pair tt e
  covered_items k i below at all (Item j h) pair early e =
      elim early [
        | inl less ↦
            elim (cases_lt j k) [
              | inl lower ↦ at.covered (Item j h) pair (inl lower) e
              | inr no_lower ↦
                  let same : j ≡ k = omega arith in
                  elim (cases_lt h i) [
                    | inl before ↦ at.covered (Item j h) pair (inr (same, before)) e
                    | inr past ↦
                        let here : Reached = pair_in pairs (place_at steps j) in
                        let j_below : j < length steps = omega arith in
                        let all_j : length (child_numbers g here.node) ≤ i = subst (λ (m : ℕ). length (child_numbers g (pair_in pairs (place_at steps m)).node) ≤ i) (sym same) all in
                        let none : pair_after g h here ≡ None = ap (option_map (λ (n : ℕ). record { sender = sender_number_after g here.sender here.node; node = n })) (slice_get_past (child_numbers g here.node) h (omega (arith, all_j, past))) in
                        absurd (none-some pair (sym none ∙ sym (ends_item g (trail_at steps j) h here (at.search.ends j j_below)) ∙ e))
                  ]
            ]
        | inr same ↦ let less = same.1 in absurd (omega arith)
      ]

  pub items_end : (k i : ℕ) → k < length steps → IsAt g pairs found steps (Item k i) → length (child_numbers g (pair_in pairs (place_at steps k)).node) ≤ i → IsAt g pairs found steps (Item (k + 1) 0)
  items_end k i below at all =
      record {
        search = at.search;
        earlier = λ j short. to_next (link_at steps j) k i (at.earlier j short);
        covered = covered_items k i below at all;
      }

  -- the same two, where the place of the step's pair, the sender after it and its children were looked up before
  pub child_taken : (k i place from : ℕ) → k < length steps → IsAt g pairs found steps (Item k i) → place_at steps k ≡ from → (s : ℕ) → s ≡ sender_number_after g (pair_in pairs from).sender (pair_in pairs from).node → (cs : List ℕ) → cs ≡ child_numbers g (pair_in pairs from).node → i < length cs → slice_get pairs place ≡ Some (record { sender = s; node = get_or cs i 0 }) → (found_after : List (Option ℕ)) (steps_after : List Step) → IsTaken place (record { sender = s; node = get_or cs i 0 }) (Item k i) found steps found_after steps_after → IsAt g pairs found_after steps_after (Item k (i + 1))
  child_taken k i place from h at same s s_is cs cs_are short listed found_after steps_after taken =
      let n : ℕ = get_or cs i 0 in
      let p : Reached = pair_in pairs (place_at steps k) in
      let q : Reached = pair_in pairs from in
      let here : q ≡ p = ap (pair_in pairs) (sym same) in
      let row : cs ≡ child_numbers g p.node = cs_are ∙ ap (λ (r : Reached). child_numbers g r.node) here in
      let child : slice_get (child_numbers g p.node) i ≡ Some n = ap (λ (l : List ℕ). slice_get l i) (sym row) ∙ slice_get-get_or cs i 0 short in
      let after : s ≡ sender_number_after g p.sender p.node = s_is ∙ ap (λ (r : Reached). sender_number_after g r.sender r.node) here in
      let to : Reached = record { sender = s; node = n } in
      let pair : pair_in pairs place ≡ record { sender = sender_number_after g p.sender p.node; node = n } = get_or_from_slice_get pairs place to no_pair listed ∙ ap (λ (t : ℕ). record { sender = t; node = n }) after in
      item_taken k i n place to (sym (get_or_from_slice_get pairs place to no_pair listed)) h at child (slice_get_within pairs place to listed) pair found_after steps_after taken

  pub children_end : (k i from : ℕ) → k < length steps → IsAt g pairs found steps (Item k i) → place_at steps k ≡ from → (cs : List ℕ) → cs ≡ child_numbers g (pair_in pairs from).node → length cs ≤ i → IsAt g pairs found steps (Item (k + 1) 0)
  children_end k i from h at same cs cs_are all =
      let e : length cs ≡ length (child_numbers g (pair_in pairs (place_at steps k)).node) = ap length cs_are ∙ ap (λ (m : ℕ). length (child_numbers g (pair_in pairs m).node)) (sym same) in
      items_end k i h at (omega (arith, all, e))

-- each child of a listed pair is listed, under the sender after it
pub child_listed : (g : GraphParts) (pairs : List Reached) → ArePairs g pairs → (place : ℕ) → place < length pairs → (s : ℕ) → s ≡ sender_number_after g (pair_in pairs place).sender (pair_in pairs place).node → (cs : List ℕ) → cs ≡ child_numbers g (pair_in pairs place).node → (i : ℕ) → i < length cs → Contains pairs (record { sender = s; node = get_or cs i 0 })
child_listed g pairs all place inside s s_is cs cs_are i short =
    let p : Reached = pair_in pairs place in
    let n : ℕ = get_or cs i 0 in
    let next : Reached = record { sender = sender_number_after g p.sender p.node; node = n } in
    let child : Contains (child_numbers g p.node) n = subst (λ (l : List ℕ). Contains l n) cs_are (Contains-get_or cs i 0 short) in
    let listed : Contains pairs next = (all.members next).1 (child_reached g p n ((all.members p).0 (Contains-get_or pairs place no_pair inside)) child) in
    subst (λ (t : ℕ). Contains pairs (record { sender = t; node = n })) (sym s_is) listed
