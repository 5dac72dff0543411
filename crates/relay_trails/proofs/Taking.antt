-- A search takes one link after another.
use Rattle.std.proofs.Common.{◌≡◌, ◌≢◌, ℕ, ◌+◌, ◌<◌, List, [], ◌∷◌, ◌++◌, length, set, Option, Some, None, refl, sym, ap, ◌∙◌, subst, inl, inr, ◌⊎◌, arith, length-set, get_or-set_same, get_or-set_other}
use Rattle.std.proofs.lemmas.Bool.{cases_eq, cases_lt}
use Rattle.std.proofs.lemmas.Option.{MatchOption-at_some, MatchOption-at_none, none-some, same_Some}
use Rattle.relay_tables.specs.GraphParts.{GraphParts}
use Rattle.relay_pairs.specs.declared.reached.Reached.{Reached}
use Rattle.relay_trails.specs.declared.step.Link.{Link}
use Rattle.relay_trails.specs.declared.step.Link.TheVariants.{Recipient, Item}
use Rattle.relay_trails.specs.declared.step.Step.{Step}
use Rattle.relay_trails.specs.Trails.{Trail, IsLess, ends_in}
use Rattle.relay_trails.specs.Steps.{IsBackward, IsEarlier, IsKept, IsTaken, link_at, next_trail, pair_at, place_at, trail_at}
use Rattle.relay_trails.specs.Searches.{IsAt, IsAtMost, IsCovered, pair_in, step_of}
use Rattle.relay_trails.proofs.Ends.{option_cases}
use Rattle.relay_trails.proofs.Linking.{earlier_backward, one_more, last_cases, trail_before, trail_new, pair_before, pair_new, place_before, place_new, link_before, link_new, next_same, linked_push, links_rise}

-- the next link of the same kind
abbrev pub link_after : Link → Link
link_after (Recipient r) = Recipient (r + 1)
link_after (Item k i) = Item k (i + 1)

after_later : (a : Link) → IsEarlier a (link_after a)
after_later (Recipient r) = omega arith
after_later (Item k i) = inr (refl, omega arith)

after_keeps : (a next : Link) → IsEarlier a next → IsEarlier a (link_after next)
after_keeps (Recipient q) (Recipient r) h = omega arith
after_keeps (Recipient q) (Item k i) h = tt
after_keeps (Item j h) (Recipient r) e = elim e [ ]
after_keeps (Item j h) (Item k i) e = elim e [ inl less ↦ inl less | inr same ↦ let short = same.1 in inr (same.0, omega arith) ]

after_only : (a next : Link) → IsEarlier a (link_after next) → IsEarlier a next ⊎ (a ≡ next)
after_only (Recipient q) (Recipient r) h =
    elim (cases_lt q r) [ inl less ↦ inl less | inr no_less ↦ let e : q ≡ r = omega arith in inr (ap Recipient e) ]
after_only (Recipient q) (Item k i) h = inl tt
after_only (Item j h) (Recipient r) e = elim e [ ]
after_only (Item j h) (Item k i) e =
    elim e [
      | inl less ↦ inl (inl less)
      | inr same ↦
          let short = same.1 in
          elim (cases_lt h i) [
            | inl less ↦ inl (inr (same.0, less))
            | inr no_less ↦ let d : h ≡ i = omega arith in inr (ap (λ (n : ℕ). Item n h) same.0 ∙ ap (λ (n : ℕ). Item k n) d)
          ]
    ]

module _ (g : GraphParts) (pairs : List Reached) (found : List (Option ℕ)) (steps : List Step) (next : Link) (at : IsAt g pairs found steps next) (back : IsBackward next (length steps)) where
  -- all trails that there are are less than the next one
  pub all_less : (k : ℕ) → k < length steps → IsLess (trail_at steps k) (next_trail steps next)
  all_less k h = subst (λ (t : Trail). IsLess t (next_trail steps next)) (sym (at.search.linked.trails k h)) (links_rise steps at.search.rising (link_at steps k) next (at.earlier k h) back)

  module _ (place : ℕ) (inside : place < length pairs) (ends : ends_in g (next_trail steps next) ≡ Some (pair_in pairs place)) where
    -- the place has a step already
    module _ (k : ℕ) (has : step_of found place ≡ Some k) where
      pub taken_before : IsAt g pairs found steps (link_after next)
      taken_before =
          let here = at.search.steps_found place k has in
          record {
            search = at.search;
            earlier = λ j below. after_keeps (link_at steps j) next (at.earlier j below);
            covered = λ a pair early e.
                elim (after_only a next early) [
                  | inl earlier ↦ at.covered a pair earlier e
                  | inr same ↦
                      let ends_pair : ends_in g (next_trail steps next) ≡ Some pair = subst (λ (b : Link). ends_in g (next_trail steps b) ≡ Some pair) same e in
                      record {
                        step = k;
                        below = here.0;
                        same = ap (pair_in pairs) here.1 ∙ same_Some (pair_in pairs place) pair (sym ends ∙ ends_pair);
                        at_most = inl (subst (λ (b : Link). IsLess (trail_at steps k) (next_trail steps b)) (sym same) (all_less k here.0));
                      }
                ];
          }

    -- it has none yet
    module _ (none : step_of found place ≡ None) (pair : Reached) (pair_is : pair ≡ pair_in pairs place) where
      abbrev new_found : List (Option ℕ)
      new_found = set found place (Some (length steps))

      abbrev new_step : Step
      new_step = record { place = place; pair = pair; link = next }

      abbrev new_steps : List Step
      new_steps = steps ++ new_step ∷ []

      in_found : place < length found
      in_found = let e = at.search.sized in omega arith

      found_here : step_of new_found place ≡ Some (length steps)
      found_here = get_or-set_same found place (Some (length steps)) None in_found

      found_other : (q : ℕ) → q ≢ place → step_of new_found q ≡ step_of found q
      found_other q other = get_or-set_other found place q (Some (length steps)) None other

      steps_found : (q k : ℕ) → step_of new_found q ≡ Some k → (k < length new_steps) × (place_at new_steps k ≡ q)
      steps_found q k e =
          let more = one_more steps new_step in
          elim (cases_eq q place) [
            | inl same ↦
                let n : k ≡ length steps = same_Some k (length steps) (sym e ∙ ap (step_of new_found) same ∙ found_here) in
                (omega arith, ap (place_at new_steps) n ∙ place_new steps new_step ∙ sym same)
            | inr other ↦
                let h = at.search.steps_found q k (sym (found_other q other) ∙ e) in
                let below = h.0 in
                (omega arith, place_before steps new_step k below ∙ h.1)
          ]

      places : (k : ℕ) → k < length new_steps → (place_at new_steps k < length pairs) × (step_of new_found (place_at new_steps k) ≡ Some k)
      places k h =
          elim (last_cases steps new_step k h) [
            | inl old ↦
                let e = place_before steps new_step k old in
                let was = at.search.places k old in
                let other : place_at steps k ≢ place = λ same. none-some k (sym none ∙ sym (ap (step_of found) same) ∙ was.1) in
                (subst (λ (q : ℕ). q < length pairs) (sym e) was.0, ap (step_of new_found) e ∙ found_other (place_at steps k) other ∙ was.1)
            | inr new ↦
                let e : place_at new_steps k ≡ place = ap (place_at new_steps) new ∙ place_new steps new_step in
                (subst (λ (q : ℕ). q < length pairs) (sym e) inside, ap (step_of new_found) e ∙ found_here ∙ ap Some (sym new))
          ]

      trail_last : trail_at new_steps (length steps) ≡ next_trail steps next
      trail_last = trail_new steps new_step

      ends_new : (k : ℕ) → k < length new_steps → ends_in g (trail_at new_steps k) ≡ Some (pair_in pairs (place_at new_steps k))
      ends_new k h =
          elim (last_cases steps new_step k h) [
            | inl old ↦ ap (ends_in g) (trail_before steps new_step k old) ∙ at.search.ends k old ∙ ap (λ (q : ℕ). Some (pair_in pairs q)) (sym (place_before steps new_step k old))
            | inr new ↦ ap (λ (n : ℕ). ends_in g (trail_at new_steps n)) new ∙ ap (ends_in g) trail_last ∙ ends ∙ ap (λ (q : ℕ). Some (pair_in pairs q)) (sym (ap (place_at new_steps) new ∙ place_new steps new_step))
          ]

      pairs_new : (k : ℕ) → k < length new_steps → pair_at new_steps k ≡ pair_in pairs (place_at new_steps k)
      pairs_new k h =
          elim (last_cases steps new_step k h) [
            | inl old ↦ pair_before steps new_step k old ∙ at.search.pairs_are k old ∙ ap (pair_in pairs) (sym (place_before steps new_step k old))
            | inr new ↦ ap (pair_at new_steps) new ∙ pair_new steps new_step ∙ pair_is ∙ ap (pair_in pairs) (sym (ap (place_at new_steps) new ∙ place_new steps new_step))
          ]

      rising : (j k : ℕ) → j < k → k < length new_steps → IsLess (trail_at new_steps j) (trail_at new_steps k)
      rising j k before h =
          elim (last_cases steps new_step k h) [
            | inl old ↦
                let j_old : j < length steps = omega arith in
                subst (λ (t : Trail). IsLess t (trail_at new_steps k)) (sym (trail_before steps new_step j j_old))
                (subst (IsLess (trail_at steps j)) (sym (trail_before steps new_step k old)) (at.search.rising j k before old))
            | inr new ↦
                let j_old : j < length steps = omega arith in
                subst (λ (t : Trail). IsLess t (trail_at new_steps k)) (sym (trail_before steps new_step j j_old))
                (subst (IsLess (trail_at steps j)) (sym (ap (trail_at new_steps) new ∙ trail_last)) (all_less j j_old))
          ]

      covered_more : (a : Link) (pair : Reached) → next_trail new_steps a ≡ next_trail steps a → IsCovered pairs steps (next_trail steps a) pair → IsCovered pairs new_steps (next_trail new_steps a) pair
      covered_more a pair same c =
          let more = one_more steps new_step in
          let below = c.below in
          record {
            step = c.step;
            below = omega arith;
            same = ap (pair_in pairs) (place_before steps new_step c.step c.below) ∙ c.same;
            at_most =
                subst (λ (t : Trail). IsAtMost t (next_trail new_steps a)) (sym (trail_before steps new_step c.step c.below))
                (subst (IsAtMost (trail_at steps c.step)) (sym same) c.at_most);
          }

      pub taken_anew : IsAt g pairs new_found new_steps (link_after next)
      taken_anew =
          record {
            search = record {
              sized = length-set found place (Some (length steps)) ∙ at.search.sized;
              steps_found = steps_found;
              places = places;
              ends = ends_new;
              pairs_are = pairs_new;
              linked = linked_push steps new_step at.search.linked back;
              rising = rising;
            };
            earlier = λ k below.
                elim (last_cases steps new_step k below) [
                  | inl old ↦ subst (λ (a : Link). IsEarlier a (link_after next)) (sym (link_before steps new_step k old)) (after_keeps (link_at steps k) next (at.earlier k old))
                  | inr new ↦ subst (λ (a : Link). IsEarlier a (link_after next)) (sym (ap (link_at new_steps) new ∙ link_new steps new_step)) (after_later next)
                ];
            covered = λ a pair early e.
                elim (after_only a next early) [
                  | inl earlier ↦
                      let same = next_same steps new_step a (earlier_backward a next (length steps) earlier back) in
                      covered_more a pair same (at.covered a pair earlier (sym (ap (ends_in g) same) ∙ e))
                  | inr is_next ↦
                      let same : next_trail new_steps a ≡ next_trail steps next = ap (next_trail new_steps) is_next ∙ next_same steps new_step next back in
                      let more = one_more steps new_step in
                      record {
                        step = length steps;
                        below = omega arith;
                        same = ap (pair_in pairs) (place_new steps new_step) ∙ same_Some (pair_in pairs place) pair (sym ends ∙ sym (ap (ends_in g) same) ∙ e);
                        at_most = inr (trail_last ∙ sym same);
                      }
                ];
          }

    module _ (pair : Reached) (pair_is : pair ≡ pair_in pairs place) (found_after : List (Option ℕ)) (steps_after : List Step) (taken : IsTaken place pair next found steps found_after steps_after) where
      pub taken_at : IsAt g pairs found_after steps_after (link_after next)
      taken_at =
          elim (option_cases (step_of found place)) [
            | inl none ↦
                let made = MatchOption-at_none ((found_after ≡ set found place (Some (length steps))) × (steps_after ≡ steps ++ record { place = place; pair = pair; link = next } ∷ [])) (λ (k : ℕ). (found_after ≡ found) × (steps_after ≡ steps)) none taken in
                subst (λ (f : List (Option ℕ)). IsAt g pairs f steps_after (link_after next)) (sym made.0)
                (subst (λ (s : List Step). IsAt g pairs (set found place (Some (length steps))) s (link_after next)) (sym made.1) (taken_anew none pair pair_is))
            | inr has ↦
                let kept = MatchOption-at_some ((found_after ≡ set found place (Some (length steps))) × (steps_after ≡ steps ++ record { place = place; pair = pair; link = next } ∷ [])) (λ (k : ℕ). (found_after ≡ found) × (steps_after ≡ steps)) has.0 has.1 taken in
                subst (λ (f : List (Option ℕ)). IsAt g pairs f steps_after (link_after next)) (sym kept.0)
                (subst (λ (s : List Step). IsAt g pairs found s (link_after next)) (sym kept.1) (taken_before has.0 has.1))
          ]

pub taken_kept : (place : ℕ) (pair : Reached) (next : Link) (found : List (Option ℕ)) (steps : List Step) (found_after : List (Option ℕ)) (steps_after : List Step) → IsTaken place pair next found steps found_after steps_after → IsKept steps steps_after
taken_kept place pair next found steps found_after steps_after taken =
    elim (option_cases (step_of found place)) [
      | inl none ↦
          let made = MatchOption-at_none ((found_after ≡ set found place (Some (length steps))) × (steps_after ≡ steps ++ record { place = place; pair = pair; link = next } ∷ [])) (λ (k : ℕ). (found_after ≡ found) × (steps_after ≡ steps)) none taken in
          let s : Step = record { place = place; pair = pair; link = next } in
          let more = one_more steps s in
          subst (IsKept steps) (sym made.1) (record { longer = omega arith; places = place_before steps s })
      | inr has ↦
          let kept = MatchOption-at_some ((found_after ≡ set found place (Some (length steps))) × (steps_after ≡ steps ++ record { place = place; pair = pair; link = next } ∷ [])) (λ (k : ℕ). (found_after ≡ found) × (steps_after ≡ steps)) has.0 has.1 taken in
          subst (IsKept steps) (sym kept.1) (record { longer = omega arith; places = λ k h. refl })
    ]

pub kept_trans : (a b c : List Step) → IsKept a b → IsKept b c → IsKept a c
kept_trans a b c h k =
    record { longer = omega (arith, h.longer, k.longer); places = λ j below. k.places j (omega (arith, below, h.longer)) ∙ h.places j below }
