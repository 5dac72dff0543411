-- From the claims of a round to the keys that were won.
use Rattle.std.proofs.Common.{◌≡◌, ◌≢◌, ℕ, zero, suc, ◌+◌, ◌-◌, ◌<◌, ◌≤◌, Bool, true, false, not, List, [], ◌∷◌, ◌++◌, length, get_or, map, arith, sym, refl, ap, ◌∙◌, subst, ⊎_elim}
use Rattle.std.specs.Prelude.{All, AllPairs, Contains, filter, slice_index}
use Rattle.std.proofs.lemmas.Bool.{cases_eq, cond-true, cond-false, ne_eqb}
use Rattle.std.proofs.lemmas.Bool.Decides.{nat_tests, Decides-eqb}
use Rattle.std.proofs.lemmas.List.{get_or-map, length-map, get_or_default, map-append, append-nil}
use Rattle.std.proofs.lemmas.List.Elements.{All-contains, Contains-get_or}
use Rattle.std.proofs.lemmas.List.Kept.{AllPairs-filter}
use Rattle.relay_claims.specs.declared.view.Settled.{Settled}
use Rattle.relay_claims.specs.Counting.{times, IsIn, span}
use Rattle.relay_claims.specs.Settled.{settled, won_of, places_of}
use Rattle.relay_claims.specs.View.{back}
use Rattle.relay_claims.specs.Round.{piece_count}
use Rattle.relay_claims.specs.Seat.{Progress, first_half, second_half, joined}
use Rattle.relay_claims.specs.Closing.{HasClosing}
use Rattle.relay_claims.proofs.Counts.{times_append}
use Rattle.relay_claims.proofs.Looks.{won_append, won_le, claimed_append}
use Rattle.relay_rounds.specs.Searches.{AreDistinctOf, AreNewOf}
use Rattle.relay_rounds.specs.Shards.{is_there}
use Rattle.relay_rounds.specs.Winners.{keys_won, IsClaiming, HasClaimedAll, ClaimsAll}
use Rattle.relay_rounds.proofs.Keys.{nowhere, in_head, in_tail, cons_cases, in_map, from_map, all_of, filter_in, filter_from}
use Rattle.relay_rounds.proofs.Numbers.{has_number}

head_one : (x : ℕ) (xs : List ℕ) → times x (x ∷ xs) ≡ suc (times x xs)
head_one x xs = grind (arith, nat_tests)

other_head : (x y : ℕ) (xs : List ℕ) → (y ≡ x → ⊥) → times x (y ∷ xs) ≡ times x xs
other_head x y xs n = let apart : x ≢ y = λ e. n (sym e) in grind (arith, nat_tests)

-- standing in a list, by counting and by place
counted : (x : ℕ) (xs : List ℕ) → Contains xs x → IsIn x xs
counted x [] on = absurd (nowhere x on)
counted x (y ∷ ys) on =
    ⊎_elim
    (λ e. let one : times x (y ∷ ys) ≡ suc (times x ys) = subst (λ (z : ℕ). times x (z ∷ ys) ≡ suc (times x ys)) (sym e) (head_one x ys) in omega arith)
    (λ n. let same = other_head x y ys n in
    let rest : IsIn x ys = ⊎_elim (λ e. absurd (n e)) (λ more. counted x ys more) (cons_cases y ys x on) in omega arith)
    (cases_eq y x)

placed : (x : ℕ) (xs : List ℕ) → IsIn x xs → Contains xs x
placed x [] on = absurd (omega arith)
placed x (y ∷ ys) on =
    ⊎_elim
    (λ e. in_head y ys x e)
    (λ n. let same = other_head x y ys n in in_tail y ys x (placed x ys (omega arith)))
    (cases_eq y x)

no_more : (x y : ℕ) (ys : List ℕ) → times x (y ∷ ys) ≤ 1 → times x ys ≤ 1
no_more x y ys once = omega arith

-- numbers that stand in a list once differ
differ : (xs : List ℕ) → ((x : ℕ) → times x xs ≤ 1) → AllPairs (λ a b. a ≢ b) xs
differ [] once i j d before below = absurd (omega arith)
differ (y ∷ ys) once i zero d before below = absurd (omega arith)
differ (y ∷ ys) once zero (suc j) d before below = λ same.
    let on : Contains ys y = subst (λ (z : ℕ). Contains ys z) (sym same) (Contains-get_or ys j d (omega arith)) in
    let two = counted y ys on in let one = head_one y ys in let o = once y in absurd (omega arith)
differ (y ∷ ys) once (suc i) (suc j) d before below = differ ys (λ x. no_more x y ys (once x)) i j d (omega arith) (omega arith)

-- the places hold all keys, each once
record IsOnePlaceEach (keys places : List ℕ) : Type 0 where
  distinct : AllPairs (λ a b. a ≢ b) places
  within : All (λ i. i < length keys) places
  apart : (i k : ℕ) → Contains places i → Contains places k → slice_index keys i ≡ slice_index keys k → i ≡ k
  whole : (j : ℕ) → j < length keys → (i : ℕ) × Contains places i × (slice_index keys i ≡ slice_index keys j)

-- the keys of such places
winners_keys : (keys places : List ℕ) → IsOnePlaceEach keys places → AreDistinctOf keys (map (λ i. slice_index keys i) places)
winners_keys keys places w =
    let f : ℕ → ℕ = λ i. slice_index keys i in
    let size = length-map places f in
    record {
      distinct = λ i j d before below same.
          let low : j < length places = omega arith in
          let at_i : get_or (map f places) i d ≡ f (get_or places i 0) = get_or-map f places i 0 d (omega arith) in
          let at_j : get_or (map f places) j d ≡ f (get_or places j 0) = get_or-map f places j 0 d low in
          let e : get_or places i 0 ≡ get_or places j 0 =
          w.apart (get_or places i 0) (get_or places j 0) (Contains-get_or places i 0 (omega arith)) (Contains-get_or places j 0 low) (sym at_i ∙ same ∙ at_j) in
          w.distinct i j 0 before low e;
      members = λ key. (
        (λ on.
            let p = from_map f places key on in
            let inside : p.0 < length keys = All-contains (λ i. i < length keys) places p.0 w.within p.1 in
            subst (λ (k : ℕ). Contains keys k) p.2 (Contains-get_or keys p.0 0 inside)),
        (λ on.
            let key_at : slice_index keys on.0 ≡ key = get_or_default keys on.0 0 key on.1 ∙ on.2 in
            let h = w.whole on.0 on.1 in
            subst (λ (k : ℕ). Contains (map f places) k) (h.2 ∙ key_at) (in_map f places h.0 h.1)),
      );
    }

-- a round that was ended once all was drawn and claimed
pub won_all : (start after : Progress) (keys : List ℕ) → start.round.keys ≡ keys → start.position ≡ [] → ClaimsAll start after → HasClosing after → AreDistinctOf keys (keys_won keys after.settled)
won_all start after keys is root work closing =
    let items = closing.0 in let c = closing.1 in let places : List ℕ = won_of after.settled in
    let same : after.round.keys ≡ keys = ap (λ r. r.keys) work.round ∙ is in
    let at_root = work.position ∙ root in
    let won : (x : ℕ) → times x items ≡ times x places = c.won_all at_root in
    let into : (i : ℕ) → Contains places i → IsIn i items = λ i on. let n = counted i places on in let e = won i in omega arith in
    winners_keys keys places (subst (λ (ks : List ℕ). IsOnePlaceEach ks places) same (record {
      distinct = differ places (λ x. let a = won_le x after.settled in let b = c.claimed_once x in let d = c.drawn_once x in omega arith);
      within = all_of (λ i. i < length after.round.keys) places (λ i on. c.places i (into i on));
      apart = λ i k oi ok. c.apart i k (into i oi) (into k ok);
      whole = λ j small.
          let drawn = c.drew_all at_root (work.last ∙ ap piece_count (sym work.round)) j small in
          let same_count = work.claimed j in
          let w = c.one_winner at_root j (omega arith) in
          (w.0, placed w.0 places (let e = w.1 in omega arith), w.2);
    }))

both_ways : (b : Bool) → b ≡ true → b ≡ false → ⊥
both_ways true t f = absurd (cc)
both_ways false t f = absurd (cc)

not_true : (b : Bool) → not b ≡ true → b ≡ false
not_true true h = absurd (cc)
not_true false h = refl

is_not : (b : Bool) → (b ≡ true → ⊥) → not b ≡ true
is_not true apart = absurd (apart refl)
is_not false apart = refl

-- those of distinct keys that are not settled
pub unsettled_are_new : (settled offered won new : List ℕ) → AreDistinctOf offered won → new ≡ filter (λ key. not (is_there settled key)) won → AreNewOf settled offered new
unsettled_are_new settled offered won new w is =
    let fresh : ℕ → Bool = λ key. not (is_there settled key) in
    subst (λ (ks : List ℕ). AreNewOf settled offered ks) (sym is) (record {
      distinct = AllPairs-filter (λ a b. a ≢ b) fresh won w.distinct;
      members = λ key. (
        (λ on.
            let from = filter_from fresh won key on in
            ((w.members key).0 from.0, λ old. both_ways (is_there settled key) ((has_number settled key).1 old) (not_true (is_there settled key) from.1))),
        (λ on. filter_in fresh won key ((w.members key).1 on.0) (is_not (is_there settled key) (λ old. on.1 ((has_number settled key).0 old)))),
      );
    })

first_of_span : (j end : ℕ) → j < end → span j (end - j) ≡ j ∷ span (j + 1) (end - (j + 1))
first_of_span j end c = let n : end - j ≡ suc (end - (j + 1)) = omega arith in ap (λ n. span j n) n

not_here : (x j : ℕ) → (x ≡ j → ⊥) → times x (j ∷ []) ≡ 0
not_here x j ne = other_head x j [] (λ e. ne (sym e))

-- one more place was claimed
pub claimed_one : (j end : ℕ) (before after : Progress) → j < end → IsClaiming j end before → after.drawn ≡ before.drawn
    → ((x : ℕ) → times x (places_of after.settled) ≡ times x (places_of before.settled) + times x (j ∷ [])) → IsClaiming (j + 1) end after
claimed_one j end before after c was same more =
    let left : span j (end - j) ≡ j ∷ span (j + 1) (end - (j + 1)) = first_of_span j end c in
    record {
      each = λ x.
          let m = more x in
          let d : times x after.drawn ≡ times x before.drawn = ap (λ (xs : List ℕ). times x xs) same in
          let e = was.each x in
          let l : times x (span j (end - j)) ≡ times x (j ∷ span (j + 1) (end - (j + 1))) = ap (λ (xs : List ℕ). times x xs) left in
          omega arith;
      free = λ x lo hi.
          let m = more x in
          let z = not_here x j (λ e. omega arith) in
          let f = was.free x (omega arith) hi in
          omega arith;
    }

-- no place is left
pub claimed_piece : (j end : ℕ) (s : Progress) → end ≤ j → IsClaiming j end s → HasClaimedAll s
claimed_piece j end s done c x =
    let none : end - j ≡ 0 = omega arith in
    let e = c.each x in
    let l : times x (span j (end - j)) ≡ 0 = ap (λ n. times x (span j n)) none in
    omega arith

-- a place of a piece that isn't claimed yet was drawn
pub drawn_place : (j end : ℕ) (s : Progress) → j < end → IsClaiming j end s → IsIn j s.drawn
drawn_place j end s c claiming =
    let l : times j (span j (end - j)) ≡ times j (j ∷ span (j + 1) (end - (j + 1))) = ap (λ (xs : List ℕ). times j xs) (first_of_span j end c) in
    let one = head_one j (span (j + 1) (end - (j + 1))) in
    let e = claiming.each j in
    omega arith

-- a piece was drawn
pub drew_piece : (start end : ℕ) (s t : Progress) → HasClaimedAll s → t.drawn ≡ s.drawn ++ span start (end - start) → t.settled ≡ s.settled
    → ((x : ℕ) → start ≤ x → times x s.drawn ≡ 0) → IsClaiming start end t
drew_piece start end s t c drawn settled fresh =
    let claims : (x : ℕ) → times x (places_of t.settled) ≡ times x (places_of s.settled) = λ x. ap (λ ps. times x (places_of ps)) settled in
    record {
      each = λ x.
          let n = ap (λ (xs : List ℕ). times x xs) drawn ∙ times_append x s.drawn (span start (end - start)) in
          let m = claims x in let e = c x in
          omega arith;
      free = λ x lo hi. let m = claims x in let e = c x in let f = fresh x lo in omega arith;
    }

-- what two seats did
pub rest_of_both : (s one two : Progress) → ClaimsAll (first_half s) one → ClaimsAll (second_half s) two → ClaimsAll s (joined one two)
rest_of_both s one two a b = record {
  round = a.round;
  position = ap back a.position;
  last = (let x = a.last in let y = b.last in omega arith);
  claimed = λ x.
      let drawn = times_append x one.drawn two.drawn in
      let claims = ap (λ (l : List ℕ). times x l) (claimed_append one.settled two.settled) ∙ times_append x (places_of one.settled) (places_of two.settled) in
      let c = a.claimed x in let d = b.claimed x in
      omega arith;
}

pub keys_won_append : (keys : List ℕ) (ps qs : List Settled) → keys_won keys (ps ++ qs) ≡ keys_won keys ps ++ keys_won keys qs
keys_won_append keys ps qs = let f : ℕ → ℕ = λ i. slice_index keys i in ap (λ (is : List ℕ). map f is) (won_append ps qs) ∙ map-append f (won_of ps) (won_of qs)

-- a claim that is won puts its key last
pub wins_key : (keys : List ℕ) (ps : List Settled) (j : ℕ) → keys_won keys (ps ++ settled j j ∷ []) ≡ keys_won keys ps ++ slice_index keys j ∷ []
wins_key keys ps j = let f : ℕ → ℕ = λ i. slice_index keys i in
    keys_won_append keys ps (settled j j ∷ []) ∙ ap (λ (is : List ℕ). keys_won keys ps ++ map f is) (cond-true _ _ _ ((Decides-eqb j j).1 refl))

-- and one that is held elsewhere none
pub wins_none : (keys : List ℕ) (ps : List Settled) (j i : ℕ) → i ≢ j → keys_won keys (ps ++ settled j i ∷ []) ≡ keys_won keys ps
wins_none keys ps j i n = let f : ℕ → ℕ = λ k. slice_index keys k in
    keys_won_append keys ps (settled j i ∷ []) ∙ ap (λ (is : List ℕ). keys_won keys ps ++ map f is) (cond-false _ _ _ (ne_eqb j i (λ e. n (sym e)))) ∙ append-nil (keys_won keys ps)
