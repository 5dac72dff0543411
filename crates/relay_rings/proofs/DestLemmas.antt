-- The ring of each placed item, in a pass over the items.
use Rattle.std.proofs.Common.{◌≡◌, ◌⊎◌, ℕ, ◌+◌, ◌-◌, ◌<◌, ◌≤◌, true, false, not, eqb, Option, Some, None, List, [], ◌∷◌, ◌++◌, length, get_or, set, map, take, drop, replicate, refl, sym, ap, ◌∙◌, subst, arith, inl, inr}
use Rattle.std.specs.List.{AllPairs, dedup_from, slice_get, sum_by}
use Rattle.std.specs.Option.{option_eq}
use Rattle.std.proofs.lemmas.Bool.{cases_Bool, cases_eq, cond-true, cond-false, eqb-true, eqb-false, not-true, not-false, true≢false}
use Rattle.std.proofs.lemmas.List.{length-map, length_push, map-append, map_more, nil_from_length, take_more, take-append-drop, drop_more, append_assoc}
use Rattle.std.proofs.lemmas.List.Elements.{All-replicate}
use Rattle.std.proofs.lemmas.List.Sums.{sum_by-set}
use Rattle.std.proofs.lemmas.Option.{slice_get-get_or}
use Rattle.relay_rings.specs.Batches.{items_at, keys_of, IsAscendingPlaced}
use Rattle.relay_rings.specs.RingLists.{RingLists, appended, held_count}
use Rattle.relay_rings.specs.declared.batching.Placed.{Placed}
use Rattle.relay_rings.proofs.Counting.{sum_by-none}
use Rattle.relay_rings.proofs.GroupLemmas.{keys_ascending, lists_more}
use Rattle.relay_rings.proofs.KeyLemmas.{distinct, distinct_same, distinct_other, turn_before, turn_within, turn_same, turn_next, turn_place}

abbrev key_of : Placed → ℕ
key_of p = p.key

-- ---- the distinct keys in one pass
-- whether a list's last number is another one
other_last : (keys : List ℕ) (o : Option ℕ) (y : ℕ) → o ≡ slice_get keys (length keys - 1) → not (option_eq eqb o (Some y)) ≡ true → 0 < length keys → get_or keys (length keys - 1) 0 ≡ y → ⊥
other_last keys o y is differs some same =
    let there : o ≡ Some y = is ∙ slice_get-get_or keys (length keys - 1) 0 (omega arith) ∙ ap Some same in
    let equal : eqb y y ≡ false = not-true (eqb y y) (sym (ap (λ q. not (option_eq eqb q (Some y))) there) ∙ differs) in
    eqb-false y y equal refl

same_last : (keys : List ℕ) (o : Option ℕ) (y : ℕ) → o ≡ slice_get keys (length keys - 1) → not (option_eq eqb o (Some y)) ≡ false → (0 < length keys) × (get_or keys (length keys - 1) 0 ≡ y)
same_last keys o y is same =
    elim (cases_eq (length keys) 0) [
      | inl none ↦
          let nothing : o ≡ None = is ∙ ap (λ ks. slice_get ks (length ks - 1)) (nil_from_length keys none) in
          absurd (true≢false (sym (ap (λ q. not (option_eq eqb q (Some y))) nothing) ∙ same))
      | inr some ↦
          let there : o ≡ Some (get_or keys (length keys - 1) 0) = is ∙ slice_get-get_or keys (length keys - 1) 0 (omega arith) in
          let equal : eqb (get_or keys (length keys - 1) 0) y ≡ true = not-false (eqb (get_or keys (length keys - 1) 0) y) (sym (ap (λ q. not (option_eq eqb q (Some y))) there) ∙ same) in
          (omega arith, eqb-true (get_or keys (length keys - 1) 0) y equal)
    ]

module _ (placed : List Placed) (i : ℕ) (d : Placed) (b : i < length placed) where
  abbrev key : ℕ
  key = (get_or placed i d).key

  one_more : keys_of (take (i + 1) placed) ≡ distinct (map key_of (take i placed) ++ key ∷ [])
  one_more = ap distinct (map_more key_of placed i d b)

  module _ (keys : List ℕ) (o : Option ℕ) (so_far : keys ≡ keys_of (take i placed)) (last : o ≡ slice_get keys (length keys - 1)) where
    last_kept : o ≡ slice_get (keys_of (take i placed)) (length (keys_of (take i placed)) - 1)
    last_kept = last ∙ ap (λ ks. slice_get ks (length ks - 1)) so_far

    pub keys_stay : not (option_eq eqb o (Some key)) ≡ false → keys ≡ keys_of (take (i + 1) placed)
    keys_stay same =
        let s = same_last (keys_of (take i placed)) o key last_kept same in
        so_far ∙ sym (distinct_same (map key_of (take i placed)) key s.0 s.1) ∙ sym one_more

    pub keys_grow : not (option_eq eqb o (Some key)) ≡ true → keys ++ key ∷ [] ≡ keys_of (take (i + 1) placed)
    keys_grow differs =
        ap (λ ks. ks ++ key ∷ []) so_far
        ∙ sym (distinct_other (map key_of (take i placed)) key (other_last (keys_of (take i placed)) o key last_kept differs))
        ∙ sym one_more

  -- ---- the ring of the next item
  split : map key_of placed ≡ (map key_of (take i placed) ++ key ∷ []) ++ map key_of (drop (i + 1) placed)
  split =
      let parts : take i placed ++ drop i placed ≡ placed = take-append-drop i placed in
      let next = drop_more placed i d b in
      sym (ap (map key_of) parts)
      ∙ map-append key_of (take i placed) (drop i placed)
      ∙ ap (λ ps. map key_of (take i placed) ++ map key_of ps) next
      ∙ sym (append_assoc (map key_of (take i placed)) (key ∷ []) (map key_of (drop (i + 1) placed)))

  module _ (keys : List ℕ) (keys_is : keys ≡ keys_of placed) where
    abbrev front : List ℕ
    front = map key_of (take i placed)

    abbrev behind : List ℕ
    behind = map key_of (drop (i + 1) placed)

    all_is : keys ≡ distinct ((front ++ key ∷ []) ++ behind)
    all_is = keys_is ∙ ap distinct split

    pub dest_before : length (keys_of (take i placed)) - 1 < length keys
    dest_before = subst (λ ks. length (distinct front) - 1 < length ks) (sym all_is) (turn_before front key behind)

    pub dest_within : length (keys_of (take (i + 1) placed)) - 1 < length keys
    dest_within =
        let at : length (distinct (front ++ key ∷ [])) - 1 < length keys = subst (λ ks. length (distinct (front ++ key ∷ [])) - 1 < length ks) (sym all_is) (turn_within front key behind) in
        subst (λ ks. length ks - 1 < length keys) (sym one_more) at

    pub dest_key : get_or keys (length (keys_of (take (i + 1) placed)) - 1) 0 ≡ key
    dest_key =
        ap (λ ks. get_or keys (length ks - 1) 0) one_more
        ∙ ap (λ ks. get_or ks (length (distinct (front ++ key ∷ [])) - 1) 0) all_is
        ∙ turn_place front key behind

    -- the next place where the key is another one, and else the same
    pub dest_now : (dest now : ℕ) → dest ≡ length (keys_of (take i placed)) - 1 → ((get_or keys dest 0 ≡ key → ⊥) × (now ≡ dest + 1)) ⊎ ((get_or keys dest 0 ≡ key) × (now ≡ dest)) → now ≡ length (keys_of (take (i + 1) placed)) - 1
    dest_now dest now place cases =
        let reads : get_or keys dest 0 ≡ get_or (distinct ((front ++ key ∷ []) ++ behind)) (length (distinct front) - 1) 0 = ap (λ ks. get_or ks dest 0) all_is ∙ ap (λ n. get_or (distinct ((front ++ key ∷ []) ++ behind)) n 0) place in
        let more = ap length one_more in
        elim cases [
          | inl next ↦
              let t = turn_next front key behind (λ e. next.0 (reads ∙ e)) in
              let step = t.0 in
              let moved : now ≡ dest + 1 = next.1 in
              omega arith
          | inr here ↦
              let step = turn_same front key behind (sym reads ∙ here.0) in
              let stays : now ≡ dest = here.1 in
              omega arith
        ]

    pub lists_now : (lists grown : List (List ℕ)) (now : ℕ) → IsAscendingPlaced placed → lists ≡ map (items_at (take i placed)) keys → now ≡ length (keys_of (take (i + 1) placed)) - 1 → grown ≡ set lists now (get_or lists now [] ++ (get_or placed i d).item ∷ []) → grown ≡ map (items_at (take (i + 1) placed)) keys
    lists_now lists grown now up so_far place grows =
        let ordered = subst (λ ks. AllPairs (λ (x : ℕ) (y : ℕ). x < y) ks) (sym keys_is) (keys_ascending placed up) in
        let at : get_or keys now 0 ≡ key = ap (λ n. get_or keys n 0) place ∙ dest_key in
        let inside : now < length keys = subst (λ n. n < length keys) (sym place) dest_within in
        grows
        ∙ ap (λ ls. set ls now (get_or ls now [] ++ (get_or placed i d).item ∷ [])) so_far
        ∙ sym (lists_more keys ordered (take i placed) (get_or placed i d) now inside at)
        ∙ sym (ap (λ ps. map (items_at ps) keys) (take_more placed i d b))

pub held_count-appended : (r : RingLists) (dest item : ℕ) → dest < length r.lists → held_count (appended r dest item) ≡ held_count r + 1
held_count-appended r dest item b =
    let mine = get_or r.lists dest [] in
    omega (arith, sum_by-set length r.lists dest (mine ++ item ∷ []) [] b, length_push mine item)

pub lists_none : (keys : List ℕ) → map (items_at []) keys ≡ replicate (length keys) []
lists_none [] = refl
lists_none (k ∷ keys) = ap (λ ls. [] ∷ ls) (lists_none keys)

pub held_none : (n : ℕ) → sum_by length (replicate {A = List ℕ} n []) ≡ 0
held_none n = sum_by-none length (replicate n []) (All-replicate (λ (xs : List ℕ). length xs ≡ 0) n [] refl)

length-dedup_from : (k : ℕ) (xs : List ℕ) → length (dedup_from eqb k xs) ≤ length xs + 1
length-dedup_from k [] = omega arith
length-dedup_from k (x ∷ xs) =
    elim (cases_Bool (eqb x k)) [
      | inl same ↦ omega (arith, ap length (cond-true (eqb x k) (dedup_from eqb k xs) (k ∷ dedup_from eqb x xs) same), length-dedup_from k xs)
      | inr other ↦ omega (arith, ap length (cond-false (eqb x k) (dedup_from eqb k xs) (k ∷ dedup_from eqb x xs) other), length-dedup_from x xs)
    ]

length-distinct : (xs : List ℕ) → length (distinct xs) ≤ length xs
length-distinct [] = omega arith
length-distinct (x ∷ xs) = omega (arith, length-dedup_from x xs)

pub length-keys_of : (placed : List Placed) → length (keys_of placed) ≤ length placed
length-keys_of placed = omega (arith, length-distinct (map key_of placed), length-map placed key_of)
