-- The keys of placed items, and the items of each key.
use Rattle.std.proofs.Common.{◌≡◌, ◌⊎◌, ℕ, ◌<◌, Bool, true, false, ◌&&◌, cond, eqb, ltb, List, [], ◌∷◌, ◌++◌, length, get_or, set, map, refl, sym, ap, ◌∙◌, arith, inl, inr, IsTrue}
use Rattle.std.specs.List.{All, filter}
use Rattle.std.proofs.lemmas.Bool.{cases_order, cond-true, cond-false, eqb-true, eq-eqb, ne_eqb, ltb-true, or_cases, and_parts}
use Rattle.std.proofs.lemmas.List.{append-nil, get_or-map, get_or-set_same, get_or-set_other, length-map, length-set, map-append, ext_get_or}
use Rattle.std.proofs.lemmas.List.Elements.{All-map, filter-append, filter_passes}
use Rattle.std.proofs.lemmas.List.Filters.{All-dedup}
use Rattle.std.proofs.lemmas.List.Kept.{AllPairs-filter}
use Rattle.relay_rings.specs.Batches.{keys_of, items_at, comes_before, IsAscendingPlaced}
use Rattle.relay_rings.specs.declared.batching.Placed.{Placed}
use Rattle.relay_rings.proofs.Counting.{IsAscending}
use Rattle.relay_rings.proofs.KeyLemmas.{distinct-ascending, IsNonDescending}

-- ---- what the order says
pub comes_cases : (p q : Placed) → IsTrue (comes_before p q) → (p.key < q.key) ⊎ ((p.key ≡ q.key) × (p.item < q.item))
comes_cases p q t =
    elim (or_cases (ltb p.key q.key) (eqb p.key q.key && ltb p.item q.item) t) [
      | inl l ↦ inl (ltb-true p.key q.key l)
      | inr both ↦
          let parts = and_parts (eqb p.key q.key) (ltb p.item q.item) both in
          inr (eqb-true p.key q.key parts.0, ltb-true p.item q.item parts.1)
    ]

pub keys_ascending : (placed : List Placed) → IsAscendingPlaced placed → IsAscending (keys_of placed)
keys_ascending placed up =
    let keys = map (λ (p : Placed). p.key) placed in
    let blank : Placed = record { key = 0; item = 0 } in
    let order : IsNonDescending keys = λ i j d a b.
    let long = length-map placed (λ (p : Placed). p.key) in
    let at_i = get_or-map (λ (p : Placed). p.key) placed i blank d (omega arith) in
    let at_j = get_or-map (λ (p : Placed). p.key) placed j blank d (omega arith) in
    elim (comes_cases (get_or placed i blank) (get_or placed j blank) (up i j blank a (omega arith))) [
      | inl l ↦ omega arith
      | inr e ↦ omega (arith, e.0)
    ] in
    distinct-ascending keys order

pub items_ascending : (placed : List Placed) (key : ℕ) → IsAscendingPlaced placed → IsAscending (items_at placed key)
items_ascending placed key up =
    let p = λ (q : Placed). eqb q.key key in
    let group = filter p placed in
    let blank : Placed = record { key = 0; item = 0 } in
    let order = AllPairs-filter (λ (q r : Placed). IsTrue (comes_before q r)) p placed up in
    let passes = filter_passes p placed in
    λ i j d a b.
    let long = length-map group (λ (q : Placed). q.item) in
    let key_i = eqb-true (get_or group i blank).key key (passes i blank (omega arith)) in
    let key_j = eqb-true (get_or group j blank).key key (passes j blank (omega arith)) in
    let at_i = get_or-map (λ (q : Placed). q.item) group i blank d (omega arith) in
    let at_j = get_or-map (λ (q : Placed). q.item) group j blank d (omega arith) in
    elim (comes_cases (get_or group i blank) (get_or group j blank) (order i j blank a (omega arith))) [
      | inl l ↦ absurd (omega arith)
      | inr e ↦ omega (arith, e.1)
    ]

pub keys_within : (placed : List Placed) (n : ℕ) → All (λ (p : Placed). p.key < n) placed → All (λ k. k < n) (keys_of placed)
keys_within placed n h = All-dedup eqb (λ k. k < n) (map (λ (p : Placed). p.key) placed) (All-map (λ k. k < n) (λ (p : Placed). p.key) placed h)

-- ---- one more placed item
items_at-push : (placed : List Placed) (p : Placed) (key : ℕ) → items_at (placed ++ p ∷ []) key ≡ items_at placed key ++ cond (eqb p.key key) (p.item ∷ []) []
items_at-push placed p key =
    let f = λ (q : Placed). q.item in
    let test = λ (q : Placed). eqb q.key key in
    let one : map f (filter test (p ∷ [])) ≡ cond (eqb p.key key) (p.item ∷ []) [] = cond_map (eqb p.key key) p in
    ap (map f) (filter-append test placed (p ∷ [])) ∙ map-append f (filter test placed) (filter test (p ∷ [])) ∙ ap (λ xs. items_at placed key ++ xs) one
  where
    cond_map : (b : Bool) (q : Placed) → map (λ (r : Placed). r.item) (cond b (q ∷ []) []) ≡ cond b (q.item ∷ []) []
    cond_map true q = refl
    cond_map false q = refl

pub items_at-same : (placed : List Placed) (p : Placed) (key : ℕ) → p.key ≡ key → items_at (placed ++ p ∷ []) key ≡ items_at placed key ++ p.item ∷ []
items_at-same placed p key e = items_at-push placed p key ∙ ap (λ xs. items_at placed key ++ xs) (cond-true (eqb p.key key) (p.item ∷ []) [] (eq-eqb p.key key e))

pub items_at-other : (placed : List Placed) (p : Placed) (key : ℕ) → (p.key ≡ key → ⊥) → items_at (placed ++ p ∷ []) key ≡ items_at placed key
items_at-other placed p key ne =
    items_at-push placed p key
    ∙ ap (λ xs. items_at placed key ++ xs) (cond-false (eqb p.key key) (p.item ∷ []) [] (ne_eqb p.key key ne))
    ∙ append-nil (items_at placed key)

-- the lists of the keys, with one more item at the place of its key
pub lists_more : (keys : List ℕ) → IsAscending keys → (placed : List Placed) (p : Placed) (d : ℕ) → d < length keys → get_or keys d 0 ≡ p.key → map (items_at (placed ++ p ∷ [])) keys ≡ set (map (items_at placed) keys) d (get_or (map (items_at placed) keys) d [] ++ p.item ∷ [])
lists_more keys up placed p d b is =
    let old = map (items_at placed) keys in
    let grown = map (items_at (placed ++ p ∷ [])) keys in
    let mine : List ℕ = get_or old d [] ++ p.item ∷ [] in
    let wide = length-map keys (items_at placed) in
    let wide_grown = length-map keys (items_at (placed ++ p ∷ [])) in
    let long : length grown ≡ length (set old d mine) = wide_grown ∙ sym wide ∙ sym (length-set old d mine) in
    ext_get_or [] grown (set old d mine) long
    (λ k l.
    let low : k < length keys = omega arith in
    let reads : get_or grown k [] ≡ items_at (placed ++ p ∷ []) (get_or keys k 0) = get_or-map (items_at (placed ++ p ∷ [])) keys k 0 [] low in
    let had : get_or old k [] ≡ items_at placed (get_or keys k 0) = get_or-map (items_at placed) keys k 0 [] low in
    elim (cases_order k d) [
      | inl e ↦
          reads
          ∙ items_at-same placed p (get_or keys k 0) (sym (ap (λ x. get_or keys x 0) e ∙ is))
          ∙ ap (λ xs. xs ++ p.item ∷ []) (sym had ∙ ap (λ x. get_or old x []) e)
          ∙ sym (ap (λ x. get_or (set old d mine) x []) e ∙ get_or-set_same old d mine [] (omega arith))
      | inr apart ↦
          let ne : k ≡ d → ⊥ = λ e. elim apart [ inl l ↦ omega arith | inr l ↦ omega arith ] in
          let differ : p.key ≡ get_or keys k 0 → ⊥ = λ e.
          elim apart [
            | inl l ↦ let r : get_or keys k 0 < get_or keys d 0 = up k d 0 l b in omega arith
            | inr l ↦ let r : get_or keys d 0 < get_or keys k 0 = up d k 0 l low in omega arith
          ] in
          reads ∙ items_at-other placed p (get_or keys k 0) differ ∙ sym had ∙ sym (get_or-set_other old d k mine [] ne)
    ])
