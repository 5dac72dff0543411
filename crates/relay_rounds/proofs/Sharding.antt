-- Keys in parts.
use Rattle.std.proofs.Common.{◌≡◌, ◌≢◌, ℕ, zero, suc, ◌+◌, ◌%◌, ◌^◌, ◌<◌, ◌≤◌, Bool, true, false, List, [], ◌∷◌, ◌++◌, length, get_or, set, take, map, arith, sym, refl, ap, ◌∙◌, subst, inl, inr, ⊎_elim, length-set, get_or-set_same, get_or-set_other}
use Rattle.std.specs.Prelude.{All, AllPairs, Contains, flat_map, ◌↔◌, ◌⊎◌}
use Rattle.std.specs.List.Sorted.{IsStrictlyIncreasing, IsPermutation, IsNonDecreasingBy}
use Rattle.std.proofs.lemmas.Bool.{cases_eq}
use Rattle.std.proofs.lemmas.List.{get_or_default, take_more, length-take, length-map, length-append, get_or-map}
use Rattle.std.proofs.lemmas.List.Kept.{AllPairs-from_increasing}
use Rattle.std.proofs.lemmas.List.Sorted.{IsPermutation-map, IsPermutation-sym, Contains-permutation}
use Rattle.std.proofs.lemmas.List.Elements.{All-head, All-tail, All-contains, Contains-get_or, Contains-push, Contains-push_cases, Contains-append_left, Contains-append_right, Contains-append_cases}
use Rattle.relay_rounds.specs.declared.block.Block.{Block}
use Rattle.relay_rounds.specs.declared.part.Part.{Part}
use Rattle.relay_rounds.specs.Blocks.{keys_in, keys_of, AreBlocks}
use Rattle.relay_rounds.specs.Shards.{AreAtHome, AreBothOf, AreInPlace, AreParts, Taken, Grows, HasTaken, HaveTaken, home_of, keys_of_parts}
use Rattle.relay_rounds.proofs.Keys.{nowhere, in_head, cons_cases, in_flat_map, from_flat_map, pairs_flat, all_of, no_longer, as_many, distinct_both}
use Rattle.relay_rounds.proofs.Rising.{sorted_rises}
use Rattle.relay_rounds.proofs.BlockKeys.{from_block, blocks_distinct, blocks_rise}

-- the keys of a part belong there
pub home_of_key : (parts place : ℕ) (blocks : List Block) (k : ℕ) → AreAtHome parts place blocks → Contains (keys_of blocks) k → home_of parts k ≡ place
home_of_key parts place blocks k home on =
    let w = from_flat_map keys_in blocks k on in
    ap (λ (n : ℕ). n % parts) (from_block w.0 k w.2).0 ∙ All-contains (λ b. b.number % parts ≡ place) blocks w.0 home w.1

module _ (parts : List Part) (p : AreInPlace (length parts) parts) where
  -- a key is settled where it stands in its part
  pub part_has : (k : ℕ) (d : Part) → Contains (keys_of_parts parts) k ↔ Contains (keys_of (get_or parts (home_of (length parts) k) d).shard) k
  part_has k d = (
    (λ on.
        let w = from_flat_map (λ part. keys_of part.shard) parts k on in
        let j : ℕ = w.1.0 in
        let below : j < length parts = w.1.1 in
        let here : get_or parts j d ≡ w.0 = get_or_default parts j d w.0 below ∙ w.1.2 in
        let there : Contains (keys_of (get_or parts j d).shard) k = subst (λ part. Contains (keys_of part.shard) k) (sym here) w.2 in
        let own = home_of_key (length parts) j (get_or parts j d).shard k (p.homes j d below) there in
        let at : home_of (length parts) k ≡ j = omega arith in
        subst (λ (p : ℕ). Contains (keys_of (get_or parts p d).shard) k) (sym at) there),
    (λ on. let some = p.some_part in in_flat_map (λ part. keys_of part.shard) parts (get_or parts (home_of (length parts) k) d) k (Contains-get_or parts (home_of (length parts) k) d (omega arith)) on),
  )

  pub parts_distinct : AllPairs (λ a b. a ≢ b) (keys_of_parts parts)
  parts_distinct = pairs_flat (λ a b. a ≢ b) (λ part. keys_of part.shard) parts
      (λ part on. blocks_distinct part.shard (All-contains (λ q. AreBlocks q.shard) parts part p.lawful on).apart)
      (λ i j d before below k l ink inl e.
      let a = home_of_key (length parts) i (get_or parts i d).shard k (p.homes i d (omega arith)) ink in
      let b = home_of_key (length parts) j (get_or parts j d).shard l (p.homes j d below) inl in
      let same : i ≡ j = sym a ∙ ap (λ (z : ℕ). home_of (length parts) z) e ∙ b in
      omega arith)

  -- the blocks of all parts
  whole_apart : AllPairs (λ a b. a.number ≢ b.number) (flat_map (λ part. part.shard) parts)
  whole_apart = pairs_flat (λ a b. a.number ≢ b.number) (λ part. part.shard) parts
      (λ part on. (All-contains (λ q. AreBlocks q.shard) parts part p.lawful on).apart)
      (λ i j d before below a b ina inb e.
      let x = All-contains (λ z. z.number % length parts ≡ i) (get_or parts i d).shard a (p.homes i d (omega arith)) ina in
      let y = All-contains (λ z. z.number % length parts ≡ j) (get_or parts j d).shard b (p.homes j d below) inb in
      let same : i ≡ j = sym x ∙ ap (λ (z : ℕ). z % length parts) e ∙ y in
      omega arith)

  pub whole_small : All (λ b. b.number < 2 ^ 58) (flat_map (λ part. part.shard) parts)
  whole_small = all_of (λ b. b.number < 2 ^ 58) (flat_map (λ part. part.shard) parts) (λ b on.
      let w = from_flat_map (λ part. part.shard) parts b on in
      All-contains (λ z. z.number < 2 ^ 58) w.0.shard b (All-contains (λ q. AreBlocks q.shard) parts w.0 p.lawful w.1).small w.2)

  module _ (sorted : List Block) (moved : IsPermutation (flat_map (λ part. part.shard) parts) sorted) (order : IsNonDecreasingBy (λ b. b.number) sorted) where
    sorted_numbers : IsStrictlyIncreasing (map (λ b. b.number) sorted)
    sorted_numbers =
        let blocks : List Block = flat_map (λ part. part.shard) parts in
        sorted_rises (map (λ b. b.number) blocks) (map (λ b. b.number) sorted)
        (λ i j d before below.
        let size = length-map blocks (λ b. b.number) in
        let e : Block = record { number = 0; word = 0 } in
        λ same. whole_apart i j e before (omega arith) (sym (get_or-map (λ b. b.number) blocks i e d (omega arith)) ∙ same ∙ get_or-map (λ b. b.number) blocks j e d (omega arith)))
        (IsPermutation-map (λ b. b.number) blocks sorted moved)
        (λ i j d before below.
        let size = length-map sorted (λ b. b.number) in
        let e : Block = record { number = 0; word = 0 } in
        let x = get_or-map (λ b. b.number) sorted i e d (omega arith) in
        let y = get_or-map (λ b. b.number) sorted j e d (omega arith) in
        let h = order i j e before (omega arith) in omega arith)

    sorted_rise : AllPairs (λ a b. a.number < b.number) sorted
    sorted_rise i j d before below =
        let size = length-map sorted (λ b. b.number) in
        let h = AllPairs-from_increasing (map (λ b. b.number) sorted) sorted_numbers i j 0 before (omega arith) in
        let x = get_or-map (λ b. b.number) sorted i d 0 (omega arith) in
        let y = get_or-map (λ b. b.number) sorted j d 0 (omega arith) in omega arith

    pub answer_pairs : AllPairs (λ a b. a < b) (keys_of sorted)
    answer_pairs = blocks_rise sorted sorted_rise

    pub answer_rises : IsStrictlyIncreasing (keys_of sorted)
    answer_rises k below = answer_pairs k (k + 1) 0 (omega arith) below

    pub answer_members : (k : ℕ) → Contains (keys_of sorted) k ↔ Contains (keys_of_parts parts) k
    answer_members k =
        let blocks : List Block = flat_map (λ part. part.shard) parts in (
          (λ on.
              let w = from_flat_map keys_in sorted k on in
              let b : Contains blocks w.0 = Contains-permutation sorted blocks w.0 (IsPermutation-sym blocks sorted moved) w.1 in
              let p = from_flat_map (λ part. part.shard) parts w.0 b in
              in_flat_map (λ part. keys_of part.shard) parts p.0 k p.1 (in_flat_map keys_in p.0.shard w.0 k p.2 w.2)),
          (λ on.
              let p = from_flat_map (λ part. keys_of part.shard) parts k on in
              let w = from_flat_map keys_in p.0.shard k p.2 in
              in_flat_map keys_in sorted w.0 k (Contains-permutation blocks sorted w.0 moved (in_flat_map (λ part. part.shard) parts p.0 w.0 p.1 w.1)) w.2),
        )

    pub answer_len : length (keys_of sorted) ≡ length (keys_of_parts parts)
    answer_len = as_many (keys_of sorted) (keys_of_parts parts) (λ i j d before below e. let h = answer_pairs i j d before below in omega arith) parts_distinct answer_members

-- what a part has after a key came
pub taken_keys : (keys : List ℕ) (key : ℕ) (new : Bool) (after : List ℕ) → Taken keys key new after → (k : ℕ) → Contains after k ↔ (Contains keys k ⊎ (key ≡ k))
taken_keys keys key true after done k = let m = done.1.members k in (
  (λ on. ⊎_elim (λ old. inl old) (λ one. ⊎_elim (λ e. inr e) (λ none. absurd (nowhere k none)) (cons_cases key [] k one)) (m.0 on)),
  (λ h. m.1 (⊎_elim (λ old. inl old) (λ e. inr (in_head key [] k e)) h)),
)
taken_keys keys key false after done k = (
  (λ on. inl (subst (λ (ks : List ℕ). Contains ks k) done.1 on)),
  (λ h. subst (λ (ks : List ℕ). Contains ks k) (sym done.1) (⊎_elim (λ old. old) (λ e. subst (λ (z : ℕ). Contains keys z) e done.0) h)),
)

-- nothing was taken of no keys
pub takes_none : (keys : List ℕ) (parts place : ℕ) (part : Part) → AreBlocks part.shard → AreAtHome parts place part.shard → HasTaken (take 0 keys) parts place part part
takes_none keys parts place part lawful home = record {
  lawful = λ _. lawful;
  home = λ _. home;
  keys_now = λ _ k. ((λ on. inl on), (λ h. ⊎_elim (λ old. old) (λ none. absurd (nowhere k none.0)) h));
}

-- one more of the keys came
pub takes_more : (keys : List ℕ) (i key parts place : ℕ) (before part after : Part) → i < length keys → key ≡ get_or keys i 0 → home_of parts key ≡ place → HasTaken (take i keys) parts place before part
    → (after.refused ≡ false → (part.refused ≡ false) × ((new : Bool) × Grows part.shard key new after.shard)) → HasTaken (take (i + 1) keys) parts place before after
takes_more keys i key parts place before part after below is at h step =
    let more : take (i + 1) keys ≡ take i keys ++ key ∷ [] = take_more keys i 0 below ∙ ap (λ (k : ℕ). take i keys ++ k ∷ []) (sym is) in
    record {
      lawful = λ fine. (step fine).1.1.lawful;
      home = λ fine. let s = step fine in s.1.1.home parts place at (h.home s.0);
      keys_now = λ fine k.
          let s = step fine in
          let now = taken_keys (keys_of part.shard) key s.1.0 (keys_of after.shard) s.1.1.taken k in
          let was = h.keys_now s.0 k in (
            (λ on. ⊎_elim
                (λ old. ⊎_elim (λ first. inl first) (λ own. inr (subst (λ (ks : List ℕ). Contains ks k) (sym more) (Contains-append_left (take i keys) (key ∷ []) k own.0), own.1)) (was.0 old))
                (λ e. inr (subst (λ (ks : List ℕ). Contains ks k) (sym more) (subst (λ (z : ℕ). Contains (take i keys ++ key ∷ []) z) e (Contains-push (take i keys) key)), ap (λ (z : ℕ). home_of parts z) (sym e) ∙ at))
                (now.0 on)),
            (λ h2. now.1 (⊎_elim
                (λ first. inl (was.1 (inl first)))
                (λ own. ⊎_elim (λ old. inl (was.1 (inr (old, own.1)))) (λ e. inr e) (Contains-push_cases (take i keys) key k (subst (λ (ks : List ℕ). Contains ks k) more own.0)))
                h2)),
          );
    }

-- one more of the keys belongs elsewhere
pub takes_other : (keys : List ℕ) (i key parts place : ℕ) (before part : Part) → i < length keys → key ≡ get_or keys i 0 → (home_of parts key ≡ place → ⊥) → HasTaken (take i keys) parts place before part
    → HasTaken (take (i + 1) keys) parts place before part
takes_other keys i key parts place before part below is other h =
    let more : take (i + 1) keys ≡ take i keys ++ key ∷ [] = take_more keys i 0 below ∙ ap (λ (k : ℕ). take i keys ++ k ∷ []) (sym is) in
    record {
      lawful = h.lawful;
      home = h.home;
      keys_now = λ fine k. let was = h.keys_now fine k in (
        (λ on. ⊎_elim (λ first. inl first) (λ own. inr (subst (λ (ks : List ℕ). Contains ks k) (sym more) (Contains-append_left (take i keys) (key ∷ []) k own.0), own.1)) (was.0 on)),
        (λ h2. was.1 (⊎_elim
            (λ first. inl first)
            (λ own. ⊎_elim (λ old. inr (old, own.1)) (λ e. absurd (other (ap (λ (z : ℕ). home_of parts z) e ∙ own.1))) (Contains-push_cases (take i keys) key k (subst (λ (ks : List ℕ). Contains ks k) more own.0)))
            h2)),
      );
    }

-- new keys beside those that were there
pub both_len : (old more now : List ℕ) → AreBothOf old more now → AllPairs (λ a b. a ≢ b) old → AllPairs (λ a b. a ≢ b) more → ((k : ℕ) → Contains more k → Contains old k → ⊥)
    → length now ≡ length old + length more
both_len old more now b apart_old apart_more fresh =
    let size = length-append old more in
    let e = as_many now (old ++ more) b.distinct (distinct_both old more apart_old apart_more (λ k o m. fresh k m o)) (λ k. (
      (λ on. ⊎_elim (λ o. Contains-append_left old more k o) (λ m. Contains-append_right old more k m) ((b.members k).0 on)),
      (λ on. (b.members k).1 (Contains-append_cases old more k on)),
    )) in omega arith

flat_set : (f : Part → List ℕ) (parts : List Part) (i : ℕ) (part d : Part) → i < length parts → f part ≡ f (get_or parts i d) → flat_map f (set parts i part) ≡ flat_map f parts
flat_set f [] i part d below e = absurd (omega arith)
flat_set f (p ∷ ps) zero part d below e = ap (λ (xs : List ℕ). xs ++ flat_map f ps) e
flat_set f (p ∷ ps) (suc i) part d below e = ap (λ (xs : List ℕ). f p ++ xs) (flat_set f ps i part d (omega arith) e)

module _ (len : ℕ) (parts : List Part) (p : AreParts len parts) (home key : ℕ) (part after : Part) (at : home ≡ home_of (length parts) key) (is : part ≡ get_or parts home part) where
  home_low : home < length parts
  home_low = let s = p.all.some_part in omega arith

  size_set : length (set parts home after) ≡ length parts
  size_set = length-set parts home after

  module _ (new : Bool) (g : Grows part.shard key new after.shard) where
    lawful_set : All (λ q. AreBlocks q.shard) (set parts home after)
    lawful_set i d low =
        let size = size_set in
        ⊎_elim
        (λ e. subst (λ q. AreBlocks q.shard) (sym (ap (λ (j : ℕ). get_or (set parts home after) j d) e ∙ get_or-set_same parts home after d home_low)) g.lawful)
        (λ ne. subst (λ q. AreBlocks q.shard) (sym (get_or-set_other parts home i after d ne)) (p.all.lawful i d (omega arith)))
        (cases_eq i home)

    home_part : AreAtHome (length parts) home part.shard
    home_part = subst (λ q. AreAtHome (length parts) home q.shard) (sym is) (p.all.homes home part home_low)

    homes_set : (place : ℕ) (d : Part) → place < length (set parts home after) → AreAtHome (length (set parts home after)) place (get_or (set parts home after) place d).shard
    homes_set place d low =
        let size = size_set in
        subst (λ (n : ℕ). AreAtHome n place (get_or (set parts home after) place d).shard) (sym size)
        (⊎_elim
        (λ e. subst (λ (j : ℕ). AreAtHome (length parts) j (get_or (set parts home after) j d).shard) (sym e)
        (subst (λ q. AreAtHome (length parts) home q.shard) (sym (get_or-set_same parts home after d home_low)) (g.home (length parts) home (omega arith) home_part)))
        (λ ne. subst (λ q. AreAtHome (length parts) place q.shard) (sym (get_or-set_other parts home place after d ne)) (p.all.homes place d (omega arith)))
        (cases_eq place home))

    all_set : AreInPlace (length (set parts home after)) (set parts home after)
    all_set = let size = size_set in let some = p.all.some_part in record { some_part = omega arith; within = omega arith; lawful = lawful_set; homes = homes_set }

    has_set : (k : ℕ) → Contains (keys_of_parts (set parts home after)) k ↔ (Contains (keys_of_parts parts) k ⊎ (key ≡ k))
    has_set k =
        let size = size_set in
        let now = part_has (set parts home after) all_set k after in
        let was = part_has parts p.all k after in
        let place : ℕ = home_of (length parts) k in
        let moved : get_or (set parts home after) (home_of (length (set parts home after)) k) after ≡ get_or (set parts home after) place after = ap (λ (n : ℕ). get_or (set parts home after) (home_of n k) after) size in
        let grown = taken_keys (keys_of part.shard) key new (keys_of after.shard) g.taken k in
        ⊎_elim
        (λ e.
        let here : get_or (set parts home after) (home_of (length (set parts home after)) k) after ≡ after = moved ∙ ap (λ (j : ℕ). get_or (set parts home after) j after) e ∙ get_or-set_same parts home after after home_low in
        let there : get_or parts place after ≡ part = ap (λ (j : ℕ). get_or parts j after) e ∙ get_or_default parts home after part home_low ∙ sym is in (
          (λ on. ⊎_elim (λ old. inl (was.1 (subst (λ q. Contains (keys_of q.shard) k) (sym there) old))) (λ one. inr one) (grown.0 (subst (λ q. Contains (keys_of q.shard) k) here (now.0 on)))),
          (λ h. now.1 (subst (λ q. Contains (keys_of q.shard) k) (sym here) (grown.1 (⊎_elim (λ old. inl (subst (λ q. Contains (keys_of q.shard) k) there (was.0 old))) (λ one. inr one) h)))),
        ))
        (λ ne.
        let here : get_or (set parts home after) (home_of (length (set parts home after)) k) after ≡ get_or parts place after = moved ∙ get_or-set_other parts home place after after ne in (
          (λ on. inl (was.1 (subst (λ q. Contains (keys_of q.shard) k) here (now.0 on)))),
          (λ h. ⊎_elim (λ old. now.1 (subst (λ q. Contains (keys_of q.shard) k) (sym here) (was.0 old))) (λ one. absurd (ne (ap (λ (z : ℕ). home_of (length parts) z) (sym one) ∙ sym at))) h),
        ))
        (cases_eq place home)

    set_distinct : AllPairs (λ a b. a ≢ b) (keys_of_parts (set parts home after))
    set_distinct = parts_distinct (set parts home after) all_set

  -- the key is new
  module _ (g : Grows part.shard key true after.shard) where
    pub set_taken : Taken (keys_of_parts parts) key true (keys_of_parts (set parts home after))
    set_taken =
        let was = part_has parts p.all key part in
        let there : get_or parts (home_of (length parts) key) part ≡ part = ap (λ (j : ℕ). get_or parts j part) (sym at) ∙ sym is in (
          (λ on. g.taken.0 (subst (λ q. Contains (keys_of q.shard) key) there (was.0 on))),
          record {
            distinct = set_distinct true g;
            members = λ k. let h = has_set true g k in (
              (λ on. ⊎_elim (λ old. inl old) (λ e. inr (in_head key [] k e)) (h.0 on)),
              (λ on. h.1 (⊎_elim (λ old. inl old) (λ one. inr (⊎_elim (λ e. e) (λ none. absurd (nowhere k none)) (cons_cases key [] k one))) on)),
            );
          },
        )

    pub set_parts : AreParts (len + 1) (set parts home after)
    set_parts = record {
      all = all_set true g;
      count =
          let t = set_taken in
          let e = both_len (keys_of_parts parts) (key ∷ []) (keys_of_parts (set parts home after)) t.1 (parts_distinct parts p.all) (λ i j d before below. absurd (omega arith))
          (λ k one old. t.0 (subst (λ (z : ℕ). Contains (keys_of_parts parts) z) (sym (⊎_elim (λ e. e) (λ none. absurd (nowhere k none)) (cons_cases key [] k one))) old)) in
          let c = p.count in omega arith;
    }

  -- the key was there
  module _ (g : Grows part.shard key false after.shard) where
    pub same_keys : keys_of_parts (set parts home after) ≡ keys_of_parts parts
    same_keys = flat_set (λ q. keys_of q.shard) parts home after part home_low (g.taken.1 ∙ ap (λ q. keys_of q.shard) is)

    pub same_taken : Taken (keys_of_parts parts) key false (keys_of_parts (set parts home after))
    same_taken =
        let was = part_has parts p.all key part in
        let there : get_or parts (home_of (length parts) key) part ≡ part = ap (λ (j : ℕ). get_or parts j part) (sym at) ∙ sym is in
        (was.1 (subst (λ q. Contains (keys_of q.shard) key) (sym there) g.taken.0), same_keys)

    pub same_parts : AreParts len (set parts home after)
    same_parts = record {
      all = all_set false g;
      count = p.count ∙ ap length (sym same_keys);
    }

-- all parts took their keys
module _ (len : ℕ) (parts now : List Part) (keys : List ℕ) (p : AreParts len parts) (h : HaveTaken keys (length parts) parts now) (fine : All (λ q. q.refused ≡ false) now) where
  lawful_now : All (λ q. AreBlocks q.shard) now
  lawful_now i d low = let size = h.size in (h.each i d (omega arith)).lawful (fine i d low)

  homes_now : (place : ℕ) (d : Part) → place < length now → AreAtHome (length now) place (get_or now place d).shard
  homes_now place d low = let size = h.size in subst (λ (n : ℕ). AreAtHome n place (get_or now place d).shard) (sym size) ((h.each place d (omega arith)).home (fine place d low))

  all_now : AreInPlace (length now) now
  all_now = let size = h.size in let some = p.all.some_part in record { some_part = omega arith; within = omega arith; lawful = lawful_now; homes = homes_now }

  pub all_taken : AreBothOf (keys_of_parts parts) keys (keys_of_parts now)
  all_taken = let size = h.size in let some = p.all.some_part in record {
    distinct = parts_distinct now all_now;
    members = λ k.
        let d : Part = get_or_some now (omega arith) in
        let place : ℕ = home_of (length parts) k in
        let low : place < length parts = omega arith in
        let moved : get_or now (home_of (length now) k) d ≡ get_or now place d = ap (λ (n : ℕ). get_or now (home_of n k) d) size in
        let here = part_has now all_now k d in
        let was = part_has parts p.all k d in
        let t = (h.each place d low).keys_now (fine place d (omega arith)) k in (
          (λ on. ⊎_elim (λ old. inl (was.1 old)) (λ own. inr own.0) (t.0 (subst (λ q. Contains (keys_of q.shard) k) moved (here.0 on)))),
          (λ on. here.1 (subst (λ q. Contains (keys_of q.shard) k) (sym moved) (t.1 (⊎_elim (λ old. inl (was.0 old)) (λ m. inr (m, omega arith)) on)))),
        );
  }
    where
      get_or_some : (qs : List Part) → 0 < length qs → Part
      get_or_some [] none = absurd (omega arith)
      get_or_some (q ∷ qs) one = q

  pub parts_now : AllPairs (λ a b. a ≢ b) keys → ((k : ℕ) → Contains keys k → Contains (keys_of_parts parts) k → ⊥) → AreParts (len + length keys) now
  parts_now distinct fresh = record {
    all = all_now;
    count = let e = both_len (keys_of_parts parts) keys (keys_of_parts now) all_taken (parts_distinct parts p.all) distinct fresh in let c = p.count in omega arith;
  }

-- keys that came one after another
pub both_none : (old keys : List ℕ) → AllPairs (λ a b. a ≢ b) old → AreBothOf old (take 0 keys) old
both_none old keys distinct = record { distinct = distinct; members = λ k. ((λ on. inl on), (λ h. ⊎_elim (λ o. o) (λ none. absurd (nowhere k none)) h)) }

taken_distinct : (keys : List ℕ) (key : ℕ) (new : Bool) (after : List ℕ) → AllPairs (λ a b. a ≢ b) keys → Taken keys key new after → AllPairs (λ a b. a ≢ b) after
taken_distinct keys key true after d t = t.1.distinct
taken_distinct keys key false after d t = subst (λ (ks : List ℕ). AllPairs (λ a b. a ≢ b) ks) (sym t.1) d

pub both_more : (old keys now after : List ℕ) (i key : ℕ) (new : Bool) → i < length keys → key ≡ get_or keys i 0 → AreBothOf old (take i keys) now → Taken now key new after → AreBothOf old (take (i + 1) keys) after
both_more old keys now after i key new below is b t =
    let more : take (i + 1) keys ≡ take i keys ++ key ∷ [] = take_more keys i 0 below ∙ ap (λ (k : ℕ). take i keys ++ k ∷ []) (sym is) in
    record {
      distinct = taken_distinct now key new after b.distinct t;
      members = λ k. let m = taken_keys now key new after t k in let was = b.members k in (
        (λ on. ⊎_elim
            (λ n. ⊎_elim (λ o. inl o) (λ first. inr (subst (λ (ks : List ℕ). Contains ks k) (sym more) (Contains-append_left (take i keys) (key ∷ []) k first))) (was.0 n))
            (λ e. inr (subst (λ (ks : List ℕ). Contains ks k) (sym more) (subst (λ (z : ℕ). Contains (take i keys ++ key ∷ []) z) e (Contains-push (take i keys) key))))
            (m.0 on)),
        (λ h. m.1 (⊎_elim
            (λ o. inl (was.1 (inl o)))
            (λ some. ⊎_elim (λ first. inl (was.1 (inr first))) (λ e. inr e) (Contains-push_cases (take i keys) key k (subst (λ (ks : List ℕ). Contains ks k) more some)))
            h)),
      );
    }

-- no more than both lists have
pub both_few : (old keys now : List ℕ) (i : ℕ) → AreBothOf old (take i keys) now → length now ≤ length old + i
both_few old keys now i b =
    let few = no_longer now (old ++ take i keys) b.distinct (λ k on. ⊎_elim (λ o. Contains-append_left old (take i keys) k o) (λ m. Contains-append_right old (take i keys) k m) ((b.members k).0 on)) in
    let size = length-append old (take i keys) in
    let short = length-take i keys in
    omega arith

-- a slice that was handed back whole
pub whole : {X : Type 0} (xs ys : List X) (n : ℕ) → length xs ≡ n → take n (xs ++ ys) ≡ xs
whole [] ys n e = ap (λ (k : ℕ). take k ys) (sym e)
whole {X} (x ∷ xs) ys n e = ap (λ (k : ℕ). take k (x ∷ xs ++ ys)) (sym e) ∙ ap (λ (zs : List X). x ∷ zs) (whole xs ys (length xs) refl)

-- empty parts
pub no_keys : (parts : List Part) → All (λ part. part.shard ≡ []) parts → keys_of_parts parts ≡ []
no_keys [] empty = refl
no_keys (q ∷ qs) empty = ap (λ (bs : List Block). keys_of bs ++ keys_of_parts qs) (All-head (λ part. part.shard ≡ []) q qs empty) ∙ no_keys qs (All-tail (λ part. part.shard ≡ []) q qs empty)

empty_blocks : AreBlocks []
empty_blocks = record {
  apart = λ i j d before below. absurd (omega arith);
  filled = λ i d below. absurd (omega arith);
  small = λ i d below. absurd (omega arith);
}

pub no_parts : (parts : List Part) → 0 < length parts → All (λ part. part.shard ≡ []) parts → AreParts 0 parts
no_parts parts some empty = record {
  all = record {
    some_part = some;
    within = omega arith;
    lawful = λ i d below. subst (λ (bs : List Block). AreBlocks bs) (sym (empty i d below)) empty_blocks;
    homes = λ place d below. subst (λ (bs : List Block). AreAtHome (length parts) place bs) (sym (empty place d below)) (λ i e low. absurd (omega arith));
  };
  count = ap length (sym (no_keys parts empty));
}
