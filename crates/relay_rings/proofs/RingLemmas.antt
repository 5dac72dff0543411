-- What an append leaves of rings.
use Rattle.std.proofs.Common.{◌≡◌, ◌⊎◌, ℕ, Result, Ok, Err, true, false, ◌+◌, ◌-◌, ◌<◌, ◌≤◌, replicate, List, [], ◌∷◌, ◌++◌, length, get_or, set, map, refl, sym, ap, ◌∙◌, subst, arith, zero, suc, inl, inr}
use Rattle.std.specs.List.{sum_by}
use Rattle.std.specs.Result.{OnOk, OnErr, is_err}
use Rattle.std.proofs.lemmas.Bool.{cases_eq, cases_lt, true≢false}
use Rattle.std.proofs.lemmas.List.{get_or-set_same, get_or-set_other, get_or-map, length-map, length-set, ext_get_or, get_or_past, get_or_read}
use Rattle.std.proofs.lemmas.List.Sums.{sum_by-cons, sum_by-set, get_or-le-sum_by}
use Rattle.relay_rings.specs.RingLists.{RingLists}
use Rattle.relay_rings.specs.Links.{node_at, ring_at, after, items_from, ring_items, place, linked, AreRings}
use Rattle.relay_rings.specs.declared.walking.Node.{Node}
use Rattle.relay_rings.specs.declared.linking.Ring.{Ring}
use Rattle.relay_rings.proofs.Steps.{AreLinks, after_within, after-suc, items_from-push, length-items_from, after_kept, items_kept, IsLinkedIn, linked_alone, linked_between}

-- a ring that holds an item is one of the rings
pub ring_within : (rings : List Ring) (e : ℕ) → 0 < (ring_at rings e).count → e < length rings
ring_within rings e some =
    elim (cases_lt e (length rings)) [
      | inl b ↦ b
      | inr past ↦
          let none : (ring_at rings e).count ≡ 0 = ap (λ (r : Ring). r.count) (get_or_past rings e (record { newest = 0; count = 0 }) past) in
          absurd (omega arith)
    ]

module _ (nodes : List Node) (rings : List Ring) (limit : ℕ) (old : AreRings nodes rings limit) where
  -- the last place of a ring is its newest node
  pub place_last : (e m : ℕ) → (ring_at rings e).count ≡ suc m → place nodes (ring_at rings e) m ≡ (ring_at rings e).newest
  place_last e m is = subst (λ k. after nodes (ring_at rings e).newest k ≡ (ring_at rings e).newest) is (old.closed e)

  pub oldest_within : (e : ℕ) → 0 < (ring_at rings e).count → (node_at nodes (ring_at rings e).newest).link < length nodes
  oldest_within e some = old.links (ring_at rings e).newest (record { item = 0; link = 0 }) (old.newest e some)

  pub place_within : (e k : ℕ) → 0 < (ring_at rings e).count → place nodes (ring_at rings e) k < length nodes
  place_within e k some = after_within nodes old.links (node_at nodes (ring_at rings e).newest).link k (oldest_within e some)

  pub count_small : (e : ℕ) → (ring_at rings e).count ≤ length nodes
  count_small e =
      elim (cases_lt 0 (ring_at rings e).count) [
        | inl some ↦ omega (arith, old.counted, get_or-le-sum_by (λ (r : Ring). r.count) rings e (record { newest = 0; count = 0 }) (ring_within rings e some))
        | inr none ↦ omega arith
      ]

  module _ (grown : List Node) (d changed item : ℕ) (b : d < length rings) (linked_in : IsLinkedIn nodes grown (ring_at rings d) changed item) where
    -- the ring of d, and its count
    abbrev own : Ring
    own = ring_at rings d

    abbrev new : Ring
    new = record { newest = length nodes; count = own.count + 1 }

    -- the changed node isn't in another ring
    off_others : (e k : ℕ) → (e ≡ d → ⊥) → k < (ring_at rings e).count → place nodes (ring_at rings e) k ≡ changed → ⊥
    off_others e k ne l at =
        let inside : place nodes (ring_at rings e) k < length nodes = place_within e k (omega arith) in
        elim (cases_lt 0 own.count) [
          | inl some ↦
              let m = own.count - 1 in
              let is : own.count ≡ suc m = omega arith in
              let last : place nodes own m ≡ own.newest = place_last d m is in
              let met : place nodes (ring_at rings e) k ≡ place nodes own m = at ∙ linked_in.joined some ∙ sym last in
              ne (old.apart e d k m l (omega arith) met).0
          | inr none ↦
              let here : changed ≡ length nodes = linked_in.alone (omega arith) in
              omega arith
        ]

    -- and in its own ring only at the last place
    off_own : (k : ℕ) → k + 1 < own.count → place nodes own k ≡ changed → ⊥
    off_own k l at =
        let m = own.count - 1 in
        let is : own.count ≡ suc m = omega arith in
        let last : place nodes own m ≡ own.newest = place_last d m is in
        let met : place nodes own k ≡ place nodes own m = at ∙ linked_in.joined (omega arith) ∙ sym last in
        let same : k ≡ m = (old.apart d d k m (omega arith) (omega arith) met).1 in
        omega arith

    -- ---- the other rings
    newest_off : (e : ℕ) → (e ≡ d → ⊥) → 0 < (ring_at rings e).count → (ring_at rings e).newest ≡ changed → ⊥
    newest_off e ne some at =
        let m = (ring_at rings e).count - 1 in
        let is : (ring_at rings e).count ≡ suc m = omega arith in
        off_others e m ne (omega arith) (place_last e m is ∙ at)

    oldest_kept : (e : ℕ) → (e ≡ d → ⊥) → 0 < (ring_at rings e).count → (node_at grown (ring_at rings e).newest).link ≡ (node_at nodes (ring_at rings e).newest).link
    oldest_kept e ne some = linked_in.keeps.links (ring_at rings e).newest (old.newest e some) (newest_off e ne some)

    other_place : (e k : ℕ) → (e ≡ d → ⊥) → 0 < (ring_at rings e).count → k ≤ (ring_at rings e).count → place grown (ring_at rings e) k ≡ place nodes (ring_at rings e) k
    other_place e k ne some l =
        ap (λ x. after grown x k) (oldest_kept e ne some)
        ∙ after_kept nodes grown changed linked_in.keeps old.links (node_at nodes (ring_at rings e).newest).link k (oldest_within e some) (λ j small. off_others e j ne (omega arith))

    other_items : (e : ℕ) → (e ≡ d → ⊥) → ring_items grown (ring_at rings e) ≡ ring_items nodes (ring_at rings e)
    other_items e ne =
        elim (cases_eq (ring_at rings e).count 0) [
          | inl none ↦ ap (λ k. items_from grown (node_at grown (ring_at rings e).newest).link k) none ∙ sym (ap (λ k. items_from nodes (node_at nodes (ring_at rings e).newest).link k) none)
          | inr some ↦
              ap (λ x. items_from grown x (ring_at rings e).count) (oldest_kept e ne (omega arith))
              ∙ items_kept nodes grown changed linked_in.keeps old.links (node_at nodes (ring_at rings e).newest).link (ring_at rings e).count (oldest_within e (omega arith)) (λ j small. off_others e j ne (omega arith))
        ]

    -- ---- the ring itself
    own_place : (k : ℕ) → k < own.count → place grown new k ≡ place nodes own k
    own_place k l =
        ap (λ x. after grown x k) (linked_in.opens (omega arith))
        ∙ after_kept nodes grown changed linked_in.keeps old.links (node_at nodes own.newest).link k (oldest_within d (omega arith)) (λ j small. off_own j (omega arith))

    -- its last place is the new node
    own_last : place grown new own.count ≡ length nodes
    own_last =
        elim (cases_eq own.count 0) [
          | inl none ↦
              let self : (node_at grown (length nodes)).link ≡ length nodes = ap (λ x. (node_at grown x).link) (sym (linked_in.alone none)) ∙ linked_in.closes in
              ap (λ k. place grown new k) none ∙ self
          | inr ne ↦
              let some : 0 < own.count = omega arith in
              let m = own.count - 1 in
              let is : own.count ≡ suc m = omega arith in
              let before : place grown new m ≡ changed = own_place m (omega arith) ∙ place_last d m is ∙ sym (linked_in.joined some) in
              ap (λ k. place grown new k) is
              ∙ after-suc grown (node_at grown (length nodes)).link m
              ∙ ap (λ x. (node_at grown x).link) before
              ∙ linked_in.closes
        ]

    own_items : ring_items grown new ≡ ring_items nodes own ++ item ∷ []
    own_items =
        let more : own.count + 1 ≡ suc own.count = omega arith in
        let first = (node_at grown (length nodes)).link in
        let kept : items_from grown first own.count ≡ ring_items nodes own =
        elim (cases_eq own.count 0) [
          | inl none ↦ ap (λ k. items_from grown first k) none ∙ sym (ap (λ k. items_from nodes (node_at nodes own.newest).link k) none)
          | inr ne ↦
              ap (λ x. items_from grown x own.count) (linked_in.opens (omega arith))
              ∙ items_kept nodes grown changed linked_in.keeps old.links (node_at nodes own.newest).link own.count (oldest_within d (omega arith)) off_own
        ] in
        let last : (node_at grown (after grown first own.count)).item ≡ item = ap (λ x. (node_at grown x).item) own_last ∙ linked_in.item_is in
        ap (λ k. items_from grown first k) more
        ∙ items_from-push grown first own.count
        ∙ ap (λ xs. xs ++ (node_at grown (after grown first own.count)).item ∷ []) kept
        ∙ ap (λ i. ring_items nodes own ++ i ∷ []) last

    -- ---- all rings
    at_own : ring_at (set rings d new) d ≡ new
    at_own = get_or-set_same rings d new (record { newest = 0; count = 0 }) b

    at_other : (e : ℕ) → (e ≡ d → ⊥) → ring_at (set rings d new) e ≡ ring_at rings e
    at_other e ne = get_or-set_other rings d e new (record { newest = 0; count = 0 }) ne

    -- a place of the grown rings that isn't the new node is a place of the old rings, with the same numbers
    data_place : (e k : ℕ) → k < (ring_at (set rings d new) e).count → ((place grown (ring_at (set rings d new) e) k ≡ length nodes) × (e ≡ d) × (k ≡ own.count)) ⊎ ((place grown (ring_at (set rings d new) e) k ≡ place nodes (ring_at rings e) k) × (k < (ring_at rings e).count))
    data_place e k l =
        elim (cases_eq e d) [
          | inl is ↦
              let here : ring_at (set rings d new) e ≡ new = ap (λ x. ring_at (set rings d new) x) is ∙ at_own in
              let small : k < own.count + 1 = subst (λ (r : Ring). k < r.count) here l in
              let goes : place grown (ring_at (set rings d new) e) k ≡ place grown new k = ap (λ (r : Ring). place grown r k) here in
              elim (cases_eq k own.count) [
                | inl top ↦ inl (goes ∙ ap (λ j. place grown new j) top ∙ own_last, is, top)
                | inr below ↦
                    let low : k < own.count = omega arith in
                    inr (goes ∙ own_place k low ∙ ap (λ x. place nodes (ring_at rings x) k) (sym is), subst (λ x. k < (ring_at rings x).count) (sym is) low)
              ]
          | inr ne ↦
              let here : ring_at (set rings d new) e ≡ ring_at rings e = at_other e ne in
              let low : k < (ring_at rings e).count = subst (λ (r : Ring). k < r.count) here l in
              inr (ap (λ (r : Ring). place grown r k) here ∙ other_place e k ne (omega arith) (omega arith), low)
        ]

    apart_grown : (e f i j : ℕ) → i < (ring_at (set rings d new) e).count → j < (ring_at (set rings d new) f).count → place grown (ring_at (set rings d new) e) i ≡ place grown (ring_at (set rings d new) f) j → (e ≡ f) × (i ≡ j)
    apart_grown e f i j li lj met =
        elim (data_place e i li) [
          | inl top ↦
              elim (data_place f j lj) [
                | inl last ↦ (top.1 ∙ sym last.1, top.2 ∙ sym last.2)
                | inr low ↦
                    let inside : place nodes (ring_at rings f) j < length nodes = place_within f j (omega (arith, low.1)) in
                    let same : length nodes ≡ place nodes (ring_at rings f) j = sym top.0 ∙ met ∙ low.0 in
                    absurd (omega arith)
              ]
          | inr low ↦
              elim (data_place f j lj) [
                | inl last ↦
                    let inside : place nodes (ring_at rings e) i < length nodes = place_within e i (omega (arith, low.1)) in
                    let same : place nodes (ring_at rings e) i ≡ length nodes = sym low.0 ∙ met ∙ last.0 in
                    absurd (omega arith)
                | inr also ↦ old.apart e f i j low.1 also.1 (sym low.0 ∙ met ∙ also.0)
              ]
        ]

    closed_grown : (e : ℕ) → after grown (ring_at (set rings d new) e).newest (ring_at (set rings d new) e).count ≡ (ring_at (set rings d new) e).newest
    closed_grown e =
        elim (cases_eq e d) [
          | inl is ↦
              let here : ring_at (set rings d new) e ≡ new = ap (λ x. ring_at (set rings d new) x) is ∙ at_own in
              let more : own.count + 1 ≡ suc own.count = omega arith in
              let around : after grown (length nodes) (own.count + 1) ≡ length nodes = ap (λ k. after grown (length nodes) k) more ∙ own_last in
              subst (λ (r : Ring). after grown r.newest r.count ≡ r.newest) (sym here) around
          | inr ne ↦
              let here : ring_at (set rings d new) e ≡ ring_at rings e = at_other e ne in
              let around : after grown (ring_at rings e).newest (ring_at rings e).count ≡ (ring_at rings e).newest =
              elim (cases_eq (ring_at rings e).count 0) [
                | inl none ↦ ap (λ k. after grown (ring_at rings e).newest k) none
                | inr some ↦
                    let m = (ring_at rings e).count - 1 in
                    let is : (ring_at rings e).count ≡ suc m = omega arith in
                    ap (λ k. after grown (ring_at rings e).newest k) is ∙ other_place e m ne (omega arith) (omega arith) ∙ place_last e m is
              ] in
              subst (λ (r : Ring). after grown r.newest r.count ≡ r.newest) (sym here) around
        ]

    newest_grown : (e : ℕ) → 0 < (ring_at (set rings d new) e).count → (ring_at (set rings d new) e).newest < length grown
    newest_grown e some =
        elim (cases_eq e d) [
          | inl is ↦
              let here : ring_at (set rings d new) e ≡ new = ap (λ x. ring_at (set rings d new) x) is ∙ at_own in
              subst (λ (r : Ring). r.newest < length grown) (sym here) (omega (arith, linked_in.longer))
          | inr ne ↦
              let here : ring_at (set rings d new) e ≡ ring_at rings e = at_other e ne in
              let held : 0 < (ring_at rings e).count = subst (λ (r : Ring). 0 < r.count) here some in
              subst (λ (r : Ring). r.newest < length grown) (sym here) (omega (arith, linked_in.longer, old.newest e held))
        ]

    pub rings_grown : length nodes < limit → AreRings grown (set rings d new) limit
    rings_grown room = record {
      limit_small = old.limit_small;
      few = omega (arith, linked_in.longer);
      counted = omega (arith, linked_in.longer, old.counted, sum_by-set (λ (r : Ring). r.count) rings d new (record { newest = 0; count = 0 }) b);
      links = linked_in.links;
      newest = newest_grown;
      closed = closed_grown;
      apart = apart_grown;
    }

    pub lists_grown : map (ring_items grown) (set rings d new) ≡ set (map (ring_items nodes) rings) d (get_or (map (ring_items nodes) rings) d [] ++ item ∷ [])
    lists_grown =
        let lists : List (List ℕ) = map (ring_items nodes) rings in
        let had : get_or lists d [] ≡ ring_items nodes own = get_or-map (ring_items nodes) rings d (record { newest = 0; count = 0 }) [] b in
        let mine : List ℕ = get_or lists d [] ++ item ∷ [] in
        let wide : length lists ≡ length rings = length-map rings (ring_items nodes) in
        let long : length (map (ring_items grown) (set rings d new)) ≡ length (set lists d mine) =
        length-map (set rings d new) (ring_items grown) ∙ length-set rings d new ∙ sym wide ∙ sym (length-set lists d mine) in
        ext_get_or [] (map (ring_items grown) (set rings d new)) (set lists d mine) long
        (λ k l.
        let inside : k < length (set rings d new) = omega (arith, length-map (set rings d new) (ring_items grown)) in
        let low : k < length rings = omega (arith, length-set rings d new) in
        let reads : get_or (map (ring_items grown) (set rings d new)) k [] ≡ ring_items grown (ring_at (set rings d new) k) = get_or-map (ring_items grown) (set rings d new) k (record { newest = 0; count = 0 }) [] inside in
        elim (cases_eq k d) [
          | inl is ↦
              let here : ring_at (set rings d new) k ≡ new = ap (λ x. ring_at (set rings d new) x) is ∙ at_own in
              reads
              ∙ ap (ring_items grown) here
              ∙ own_items
              ∙ ap (λ xs. xs ++ item ∷ []) (sym had)
              ∙ sym (ap (λ x. get_or (set lists d mine) x []) is ∙ get_or-set_same lists d mine [] (omega arith))
          | inr ne ↦
              reads
              ∙ ap (ring_items grown) (at_other k ne)
              ∙ other_items k ne
              ∙ sym (get_or-map (ring_items nodes) rings k (record { newest = 0; count = 0 }) [] low)
              ∙ sym (get_or-set_other lists d k mine [] ne)
        ])

pub linked_in : (nodes : List Node) (ring : Ring) (item : ℕ) → AreLinks nodes → (0 < ring.count → ring.newest < length nodes) → (t : ℕ) × IsLinkedIn nodes (linked nodes ring item) ring t item
linked_in nodes ring item h newest =
    elim (cases_eq ring.count 0) [
      | inl none ↦ (length nodes, linked_alone nodes ring item h none)
      | inr ne ↦
          let some : 0 < ring.count = omega arith in
          (ring.newest, linked_between nodes ring item h some (newest some))
    ]

pub AreRings-append : (nodes : List Node) (rings : List Ring) (limit d item : ℕ) → AreRings nodes rings limit → d < length rings → length nodes < limit → AreRings (linked nodes (ring_at rings d) item) (set rings d (record { newest = length nodes; count = (ring_at rings d).count + 1 })) limit
AreRings-append nodes rings limit d item old b room =
    let l = linked_in nodes (ring_at rings d) item old.links (old.newest d) in
    rings_grown nodes rings limit old (linked nodes (ring_at rings d) item) d l.0 item b l.1 room

pub lists-append : (nodes : List Node) (rings : List Ring) (limit d item : ℕ) → AreRings nodes rings limit → d < length rings → map (ring_items (linked nodes (ring_at rings d) item)) (set rings d (record { newest = length nodes; count = (ring_at rings d).count + 1 })) ≡ set (map (ring_items nodes) rings) d (get_or (map (ring_items nodes) rings) d [] ++ item ∷ [])
lists-append nodes rings limit d item old b =
    let l = linked_in nodes (ring_at rings d) item old.links (old.newest d) in
    lists_grown nodes rings limit old (linked nodes (ring_at rings d) item) d l.0 item b l.1

-- as many items as nodes
pub held-map : (nodes : List Node) (rings : List Ring) → sum_by length (map (ring_items nodes) rings) ≡ sum_by (λ (r : Ring). r.count) rings
held-map nodes [] = refl
held-map nodes (r ∷ rings) =
    omega (arith, sum_by-cons length (ring_items nodes r) (map (ring_items nodes) rings), sum_by-cons (λ (q : Ring). q.count) r rings, length-items_from nodes (node_at nodes r.newest).link r.count, held-map nodes rings)

pub empty_lists : (n : ℕ) → map (ring_items []) (replicate n (record { newest = 0; count = 0 })) ≡ replicate n []
empty_lists zero = refl
empty_lists (suc n) = ap (λ xs. [] ∷ xs) (empty_lists n)

-- what `append` makes of the parts, as its body reads and writes them
module _ (nodes grown : List Node) (rings : List Ring) (limit d item number : ℕ) (ring : Ring) (old : AreRings nodes rings limit) (b : d < length rings) (reads : ring ≡ get_or rings d ring) (number_is : number ≡ length nodes) (grows : grown ≡ linked nodes ring item) where
  ring_is : ring ≡ ring_at rings d
  ring_is = get_or_read rings d ring b reads (record { newest = 0; count = 0 })

  grown_is : grown ≡ linked nodes (ring_at rings d) item
  grown_is = grows ∙ ap (λ (r : Ring). linked nodes r item) ring_is

  new_is : ◌≡◌ {A = Ring} (record { newest = number; count = ring.count + 1 }) (record { newest = length nodes; count = (ring_at rings d).count + 1 })
  new_is =
      let to : ℕ → ℕ → Ring = λ n k. record { newest = n; count = k } in
      ap (λ n. to n (ring.count + 1)) number_is ∙ ap (λ (r : Ring). to (length nodes) (r.count + 1)) ring_is

  pub append_rings : length nodes < limit → AreRings grown (set rings d (record { newest = number; count = ring.count + 1 })) limit
  append_rings room =
      let made = AreRings-append nodes rings limit d item old b room in
      let there = subst (λ (r : Ring). AreRings (linked nodes (ring_at rings d) item) (set rings d r) limit) (sym new_is) made in
      subst (λ ns. AreRings ns (set rings d (record { newest = number; count = ring.count + 1 })) limit) (sym grown_is) there

  pub append_lists : map (ring_items grown) (set rings d (record { newest = number; count = ring.count + 1 })) ≡ set (map (ring_items nodes) rings) d (get_or (map (ring_items nodes) rings) d [] ++ item ∷ [])
  append_lists =
      ap (λ ns. map (ring_items ns) (set rings d (record { newest = number; count = ring.count + 1 }))) grown_is
      ∙ ap (λ (r : Ring). map (ring_items (linked nodes (ring_at rings d) item)) (set rings d r)) new_is
      ∙ lists-append nodes rings limit d item old b

-- what a call that gave no error says of its success
pub OnOk-not_err : {T E P : Type 0} (r : Result T E) → is_err r ≡ false → OnOk r P → P
OnOk-not_err (Ok x) e p = p
OnOk-not_err (Err y) e p = absurd (true≢false e)

-- and what one that gave an error says of that
pub OnErr-is_err : {X E P : Type 0} (r : Result X E) → is_err r ≡ true → OnErr r P → P
OnErr-is_err (Ok x) e h = absurd (true≢false (sym e))
OnErr-is_err (Err x) e h = h

pub get_or-lists : (nodes : List Node) (rings : List Ring) (d : ℕ) (ring : Ring) → d < length rings → ring ≡ get_or rings d ring → get_or (map (ring_items nodes) rings) d [] ≡ ring_items nodes ring
get_or-lists nodes rings d ring b reads =
    get_or-map (ring_items nodes) rings d (record { newest = 0; count = 0 }) [] b ∙ ap (ring_items nodes) (sym (get_or_read rings d ring b reads (record { newest = 0; count = 0 })))

-- the destinations of the view are the rings
pub dest_within : (view : RingLists) (nodes : List Node) (rings : List Ring) (d : ℕ) → map (ring_items nodes) rings ≡ view.lists → d < length view.lists → d < length rings
dest_within view nodes rings d is b = omega (arith, ap length is, length-map rings (ring_items nodes))

-- ---- a ring that was read
pub newest_within : (nodes : List Node) (rings : List Ring) (limit : ℕ) → AreRings nodes rings limit → (d : ℕ) (ring : Ring) → d < length rings → ring ≡ get_or rings d ring → 0 < ring.count → ring.newest < length nodes
newest_within nodes rings limit old d ring b reads some =
    let is = get_or_read rings d ring b reads (record { newest = 0; count = 0 }) in
    subst (λ (r : Ring). 0 < r.count → r.newest < length nodes) (sym is) (old.newest d) some

pub count_within : (nodes : List Node) (rings : List Ring) (limit : ℕ) → AreRings nodes rings limit → (d : ℕ) (ring : Ring) → d < length rings → ring ≡ get_or rings d ring → ring.count ≤ length nodes
count_within nodes rings limit old d ring b reads =
    let is = get_or_read rings d ring b reads (record { newest = 0; count = 0 }) in
    subst (λ (r : Ring). r.count ≤ length nodes) (sym is) (count_small nodes rings limit old d)
