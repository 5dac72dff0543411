-- A search goes on from the nodes that it found, until no more are open.
use Rattle.std.proofs.Common.{drop, take, take_all, ◌+◌, ◌-◌, ◌≢◌, ◌≡◌, ℕ, ◌<◌, ◌≤◌, true, List, [], length, length-drop, get_or, refl, subst, sym, ap, ◌∙◌, ◌⊎◌, inl, inr, arith, Contains, slice_index}
use Rattle.std.proofs.lemmas.Bool.{cases_Bool, cases_lt}
use Rattle.std.proofs.lemmas.Grind.{get_or_default_zero}
use Rattle.std.proofs.lemmas.Bool.Decides.{eqb_tells}
use Rattle.std.proofs.lemmas.List.Elements.{Contains-get_or}
use Rattle.std.proofs.lemmas.List.{get_or-drop}
use Rattle.relay_rounds.specs.Closures.{IsClosureOf, IsReachedKey}
use Rattle.relay_tables.specs.GraphParts.{GraphParts}
use Rattle.relay_loops.specs.declared.place.Place.{Place}
use Rattle.relay_loops.specs.declared.direction.Direction.{Direction}
use Rattle.relay_loops.specs.Places.{place_at, is_open, met_place, near_numbers, open_keys}
use Rattle.relay_loops.specs.Searches.{AreTaken, AreWithin, HasGoneOn, HasWalked, IsSearch, IsSpread, NoneOpen}
use Rattle.relay_loops.proofs.Closing.{closed_root, closed_step, reached_root, reached_leads, reached_on, reached_step, open_leads, open_step}

-- what is not open stays so
pub still_none : (d : Direction) (old new : List Place) (nodes : List ℕ) → ((n : ℕ) → is_open d (place_at new n) ≡ true → is_open d (place_at old n) ≡ true) → NoneOpen d old nodes → NoneOpen d new nodes
still_none d old new nodes fewer none n c =
    elim (cases_Bool (is_open d (place_at new n))) [
      | inr shut ↦ shut
      | inl open_here ↦ let was = fewer n open_here in let shut = none n c in cc
    ]

index_of : (xs : List ℕ) (n : ℕ) → Contains xs n → (k : ℕ) × (k < length xs) × (slice_index xs k ≡ n)
index_of xs n c = (c.0, c.1, sym (get_or_default_zero xs c.0 n c.1) ∙ c.2)

contains_index : (xs : List ℕ) (k : ℕ) → k < length xs → Contains xs (slice_index xs k)
contains_index xs k below = Contains-get_or xs k 0 below

pub walked_none : (g : GraphParts) (d : Direction) (places : List Place) (found : List ℕ) → AreWithin places found → HasWalked g d 0 places places found found
walked_none g d places found within =
    record {
      searched = λ starts first before. before;
      fewer = λ n here. here;
      within = within;
      some = omega arith;
      closed = λ k below. absurd (omega arith);
    }

pub walked_more : (g : GraphParts) (d : Direction) (passed : ℕ) (old cur new : List Place) (before found more : List ℕ) → HasWalked g d passed old cur before found → passed < length found → AreTaken d (near_numbers g d (slice_index found passed)) cur new found more → HasWalked g d (passed + 1) old new before more
walked_more g d passed old cur new before found more walked below taken =
    let longer = taken.longer in
    record {
      searched = λ starts first s.
          let now = walked.searched starts first s in
          taken.searched g starts first (λ n c. reached_step (near_numbers g d) starts (slice_index found passed) n (now.led_to (slice_index found passed) (contains_index found passed below)) c) now;
      fewer = λ n here. walked.fewer n (taken.fewer n here);
      within = taken.within walked.within;
      some = omega arith;
      closed = λ k passed_k.
          elim (eqb_tells k passed) [
            | inl same ↦
                subst (λ (m : ℕ). NoneOpen d new (near_numbers g d (slice_index more m))) (sym same.1)
                (subst (λ (x : ℕ). NoneOpen d new (near_numbers g d x)) (sym (taken.kept passed below)) taken.none_open)
            | inr differ ↦
                let other : k ≢ passed = differ.1 in
                let earlier : k < passed = omega arith in
                subst (λ (x : ℕ). NoneOpen d new (near_numbers g d x)) (sym (taken.kept k (omega arith)))
                (still_none d cur new (near_numbers g d (slice_index found k)) taken.fewer (walked.closed k earlier))
          ];
    }

-- the rest of a list has all elements but the first few
pub in_rest : (xs : List ℕ) (passed k : ℕ) → passed ≤ k → k < length xs → Contains (drop passed xs) (slice_index xs k)
in_rest xs passed k from below =
    let j : ℕ = k - passed in
    let inside : j < length (drop passed xs) = omega (arith, length-drop passed xs) in
    let at : get_or (drop passed xs) j 0 ≡ get_or xs (passed + j) 0 = get_or-drop passed xs j 0 in
    let e : passed + j ≡ k = omega arith in
    subst (λ (x : ℕ). Contains (drop passed xs) x) (at ∙ ap (λ (m : ℕ). get_or xs m 0) e) (Contains-get_or (drop passed xs) j 0 inside)

pub rest_in : (xs : List ℕ) (passed n : ℕ) → Contains (drop passed xs) n → Contains xs n
rest_in xs passed n c =
    let k : ℕ = c.0 in
    let below : k < length (drop passed xs) = c.1 in
    let inside : passed + k < length xs = omega (arith, length-drop passed xs) in
    (passed + k, inside, sym (get_or-drop passed xs k n) ∙ c.2)

pub rest_is : (xs ys : List ℕ) (passed : ℕ) → ys ≡ xs → take (length ys - passed) (drop passed ys) ≡ drop passed xs
rest_is xs ys passed e =
    subst (λ (zs : List ℕ). take (length zs - passed) (drop passed zs) ≡ drop passed xs) (sym e) (take_all (length xs - passed) (drop passed xs) (omega (arith, length-drop passed xs)))

pub rest_within : (places : List Place) (xs ys : List ℕ) (passed : ℕ) → ys ≡ xs → AreWithin places xs → AreWithin places (take (length ys - passed) (drop passed ys))
rest_within places xs ys passed e within n c = within n (rest_in xs passed n (subst (λ (l : List ℕ). Contains l n) (rest_is xs ys passed e) c))

module _ (g : GraphParts) (d : Direction) (passed : ℕ) (old new : List Place) (before keys found : List ℕ) (closed : IsClosureOf (λ key. open_keys d old key (near_numbers g d key)) (drop passed before) keys) (taken : AreTaken d keys old new before found) where
  keys_led : (starts : List ℕ) (first : List Place) → IsSearch g d starts first old before → (n : ℕ) → Contains keys n → IsReachedKey (near_numbers g d) starts n
  keys_led starts first s n c =
      let r = reached_leads (λ key. open_keys d old key (near_numbers g d key)) (drop passed before) n ((closed.members n).0 c) in
      reached_on (near_numbers g d) starts r.0 n (s.led_to r.0 (rest_in before passed r.0 r.1)) (open_leads g d old r.0 n r.2)

  -- what is near a key is a key, or isn't open
  keys_closed : (n : ℕ) → Contains keys n → NoneOpen d new (near_numbers g d n)
  keys_closed n c m near =
      elim (cases_Bool (is_open d (place_at new m))) [
        | inr shut ↦ shut
        | inl open_here ↦
            let was : is_open d (place_at old m) ≡ true = taken.fewer m open_here in
            let key : Contains keys m = closed_step (λ key. open_keys d old key (near_numbers g d key)) (drop passed before) keys closed n m c (open_step d old (near_numbers g d n) n m near was) in
            let shut = taken.none_open m key in
            cc
      ]

  rest_key : (k : ℕ) → passed ≤ k → k < length before → Contains keys (slice_index before k)
  rest_key k from below = closed_root (λ key. open_keys d old key (near_numbers g d key)) (drop passed before) keys closed (slice_index before k) (in_rest before passed k from below)

  found_closed : (n : ℕ) → Contains found n → ((k : ℕ) × (k < passed) × (slice_index before k ≡ n)) ⊎ NoneOpen d new (near_numbers g d n)
  found_closed n c =
      elim (taken.from_either n c) [
        | inr key ↦ inr (keys_closed n key)
        | inl earlier ↦
            let at = index_of before n earlier in
            let below : at.0 < length before = at.1 in
            elim (cases_lt at.0 passed) [
              | inl early ↦ inl (at.0, early, at.2)
              | inr late ↦ inr (keys_closed n (subst (λ (x : ℕ). Contains keys x) at.2 (rest_key at.0 late below)))
            ]
      ]

  pub gone_on : HasGoneOn g d passed old new before found
  gone_on =
      record {
        searched = λ starts first s. taken.searched g starts first (keys_led starts first s) s;
        fewer = taken.fewer;
        closed = found_closed;
      }

-- a search from nothing
pub search_none : (g : GraphParts) (d : Direction) (starts : List ℕ) (places : List Place) → ((n : ℕ) → place_at places n ≡ met_place d → ⊥) → IsSearch g d starts places places []
search_none g d starts places none =
    record {
      moved = λ n. inl refl;
      listed = λ n e. absurd (none n e);
      met = λ n c. absurd (omega (arith, c.1));
      led_to = λ n c. absurd (omega (arith, c.1));
    }

module _ (g : GraphParts) (d : Direction) (starts : List ℕ) (old cur : List Place) (found : List ℕ) (none : (n : ℕ) → place_at old n ≡ met_place d → ⊥) (taken : AreTaken d starts old cur [] found) where
  begun : IsSearch g d starts old cur found
  begun = taken.searched g starts old (λ n c. reached_root (near_numbers g d) starts n c) (search_none g d starts old none)

  module _ (passed : ℕ) (mid : List Place) (more : List ℕ) (walked : HasWalked g d passed cur mid found more) where
    -- all was passed
    pub spread_walked : length more ≤ passed → IsSpread g d starts old mid more
    spread_walked all =
        record {
          search = walked.searched starts old begun;
          starts_met = still_none d cur mid starts walked.fewer taken.none_open;
          closed = λ n c.
              let at = index_of more n c in
              let below : at.0 < length more = at.1 in
              subst (λ (x : ℕ). NoneOpen d mid (near_numbers g d x)) at.2 (walked.closed at.0 (omega arith));
        }

    -- the rest was gone on from
    pub spread_on : (new : List Place) (all : List ℕ) → HasGoneOn g d passed mid new more all → IsSpread g d starts old new all
    spread_on new all gone =
        record {
          search = gone.searched starts old (walked.searched starts old begun);
          starts_met = still_none d mid new starts gone.fewer (still_none d cur mid starts walked.fewer taken.none_open);
          closed = λ n c.
              elim (gone.closed n c) [
                | inr closed ↦ closed
                | inl early ↦
                    subst (λ (x : ℕ). NoneOpen d new (near_numbers g d x)) early.2
                    (still_none d mid new (near_numbers g d (slice_index more early.0)) gone.fewer (walked.closed early.0 early.1))
              ];
        }
