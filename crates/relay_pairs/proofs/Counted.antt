-- As many pairs are reached as pairs of numbers.
use Rattle.std.proofs.Common.{◌≡◌, ◌≢◌, ◌≤◌, ℕ, suc, ◌<◌, List, [], ◌∷◌, length, map, get_or, slice_get, All, AllPairs, Contains, Some, refl, sym, ap, ◌∙◌, subst, inl, inr, arith}
use Rattle.std.proofs.lemmas.Bool.{cases_order}
use Rattle.std.proofs.lemmas.Bool.Decides.{Decides-eqb}
use Rattle.std.proofs.lemmas.Map.Views.{Contains-from_any}
use Rattle.std.proofs.lemmas.Option.{same_Some, slice_get_within, slice_get-get_or, get_or_from_slice_get}
use Rattle.std.proofs.lemmas.List.Elements.{All-tail, All-contains, All-weaker, All-contains_itself}
use Rattle.std.proofs.lemmas.List.{length-map, get_or-map}
use Rattle.std.proofs.lemmas.List.Kept.{AllPairs-cons, AllPairs-from_increasing}
use Rattle.std.proofs.lemmas.Map.Made.{IsDistinct-from_AllPairs}
use Rattle.std.proofs.lemmas.Map.Steps.{length-le_from_distinct_below}
use Rattle.relay_text.specs.AddressParts.{AddressParts}
use Rattle.relay_tables.specs.declared.node.Node.{Node}
use Rattle.relay_tables.specs.Directory.{Directory}
use Rattle.relay_tables.specs.GraphParts.{GraphParts}
use Rattle.relay_tables.specs.Senders.{Sender, Pair}
use Rattle.relay_pairs.specs.declared.reached.Reached.{Reached}
use Rattle.relay_pairs.specs.Pairs.{key_of, IsReachedPair, ArePairs, HasMorePairs}
use Rattle.relay_pairs.specs.Chains.{IsReachedBy, HasMoreBy, HasAtMostBy, HasAtLeastBy}
use Rattle.relay_pairs.proofs.Members.{in_head, in_tail, cons_cases}
use Rattle.relay_pairs.proofs.Numbered.{Leads, has_pair, to_numbers}

pairs_head : {X : Type 0} (R : X → X → Type 0) (x : X) (xs : List X) → AllPairs R (x ∷ xs) → All (R x) xs
pairs_head R x xs h = λ k d inside. h 0 (suc k) d (omega arith) (omega arith)

pairs_tail : {X : Type 0} (R : X → X → Type 0) (x : X) (xs : List X) → AllPairs R (x ∷ xs) → AllPairs R xs
pairs_tail R x xs h = λ i j d below inside. h (suc i) (suc j) d (omega arith) (omega arith)

pairs_none : {X : Type 0} (R : X → X → Type 0) → AllPairs R []
pairs_none R i j d below inside = absurd (omega (arith, inside))

-- elements that differ stand at one place each
same_place : {X : Type 0} (xs : List X) → AllPairs (λ x y. x ≢ y) xs → (i j : ℕ) (x : X) → slice_get xs i ≡ Some x → slice_get xs j ≡ Some x → i ≡ j
same_place xs distinct i j x at_i at_j =
    let i_in = slice_get_within xs i x at_i in
    let j_in = slice_get_within xs j x at_j in
    let here : get_or xs i x ≡ x = get_or_from_slice_get xs i x x at_i in
    let there : get_or xs j x ≡ x = get_or_from_slice_get xs j x x at_j in
    elim (cases_order i j) [
      | inl same ↦ same
      | inr apart ↦ elim apart [ inl less ↦ absurd (distinct i j x less j_in (here ∙ sym there)) | inr more ↦ absurd (distinct j i x more i_in (there ∙ sym here)) ]
    ]

pair_is : (p q : Pair) → p.sender ≡ q.sender → p.node ≡ q.node → p ≡ q
pair_is p q s n =
    let half : p ≡ record { sender = q.sender; node = p.node } = ap (λ (x : Sender). record { sender = x; node = p.node }) s in
    half ∙ ap (λ (x : Node). record { sender = q.sender; node = x }) n

reached_is : (p q : Reached) → p.sender ≡ q.sender → p.node ≡ q.node → p ≡ q
reached_is p q s n =
    let half : p ≡ record { sender = q.sender; node = p.node } = ap (λ (x : ℕ). record { sender = x; node = p.node }) s in
    half ∙ ap (λ (x : ℕ). record { sender = q.sender; node = x }) n

-- pairs whose keys rise are distinct
are_distinct : {g : GraphParts} (ns : List Reached) → ArePairs g ns → AllPairs (λ m n. m ≢ n) ns
are_distinct ns all i j d below inside same =
    let long = length-map ns key_of in
    let rises : key_of (get_or ns i d) < key_of (get_or ns j d) =
    rw (← get_or-map key_of ns i d (key_of d) (omega arith), ← get_or-map key_of ns j d (key_of d) inside) (AllPairs-from_increasing (map key_of ns) all.ascending i j (key_of d) below (omega (arith, long, inside))) in
    let e : key_of (get_or ns i d) ≡ key_of (get_or ns j d) = ap key_of same in
    omega (arith, rises, e)

module _ (d : Directory) (sender : Sender) (recipients : List AddressParts) (g : GraphParts) (is : Leads d sender recipients g) where
  -- the numbers of a pair
  record AreNumbers (n : Reached) (p : Pair) : Type 0 where
    pub sender_at : slice_get g.senders n.sender ≡ Some p.sender
    pub node_at : slice_get g.nodes n.node ≡ Some p.node

  one_pair : (n : Reached) (p q : Pair) → AreNumbers n p → AreNumbers n q → p ≡ q
  one_pair n p q a b =
      pair_is p q (same_Some p.sender q.sender (sym a.sender_at ∙ b.sender_at)) (same_Some p.node q.node (sym a.node_at ∙ b.node_at))

  one_number : (m n : Reached) (p : Pair) → AreNumbers m p → AreNumbers n p → m ≡ n
  one_number m n p a b =
      reached_is m n (same_place g.senders is.senders_distinct m.sender n.sender p.sender a.sender_at b.sender_at)
      (same_place g.nodes is.distinct m.node n.node p.node a.node_at b.node_at)

  -- the pairs of some numbers
  record ArePairsOf (ns : List Reached) (ps : List Pair) : Type 0 where
    pub long : length ps ≡ length ns
    pub distinct : AllPairs (λ p q. p ≢ q) ps
    pub reached : (p : Pair) → Contains ps p → IsReachedBy d sender recipients p
    pub numbers : (p : Pair) → Contains ps p → (n : Reached) × Contains ns n × AreNumbers n p

  pairs_of : (ns : List Reached) → AllPairs (λ m n. m ≢ n) ns → All (IsReachedPair g) ns → (ps : List Pair) × ArePairsOf ns ps
  pairs_of [] apart reached =
      let none : ArePairsOf [] [] = record {
        long = refl;
        distinct = pairs_none (λ p q. p ≢ q);
        reached = λ p c. absurd (omega (arith, c.1));
        numbers = λ p c. absurd (omega (arith, c.1));
      } in
      ([], none)
  pairs_of (n ∷ ns) apart reached =
      let rest = pairs_of ns (pairs_tail (λ x y. x ≢ y) n ns apart) (All-tail (IsReachedPair g) n ns reached) in
      let r = rest.1 in
      let has = has_pair d sender recipients g is n (All-contains (IsReachedPair g) (n ∷ ns) n reached (in_head n ns n refl)) in
      let p : Pair = has.pair in
      let is_p : AreNumbers n p = record { sender_at = has.sender_at; node_at = has.node_at } in
      let all : ArePairsOf (n ∷ ns) (p ∷ rest.0) = record {
        long = ap suc r.long;
        distinct =
            AllPairs-cons (λ x y. x ≢ y) p rest.0
            (All-weaker (Contains rest.0) (λ q. p ≢ q)
            (λ q c same.
            let m = r.numbers q c in
            let e : n ≡ m.0 = one_number n m.0 q (subst (λ (x : Pair). AreNumbers n x) same is_p) m.2 in
            All-contains (λ x. n ≢ x) ns m.0 (pairs_head (λ x y. x ≢ y) n ns apart) m.1 e) rest.0 (All-contains_itself rest.0)) r.distinct;
        reached = λ q c. elim (cons_cases p rest.0 q c) [ inl here ↦ subst (IsReachedBy d sender recipients) here has.reached | inr there ↦ r.reached q there ];
        numbers = λ q c.
            elim (cons_cases p rest.0 q c) [
              | inl here ↦ (n, in_head n ns n refl, subst (AreNumbers n) here is_p)
              | inr there ↦
                  let m = r.numbers q there in
                  (m.0, in_tail n ns m.0 m.1, m.2)
            ];
      } in
      (p ∷ rest.0, all)

  pub more_by : (n : ℕ) → HasMorePairs g n → HasMoreBy d sender recipients n
  more_by n h =
      let all = pairs_of h.pairs h.distinct h.reached in
      let r = all.1 in
      record {
        pairs = all.0;
        distinct = r.distinct;
        reached = All-weaker (Contains all.0) (IsReachedBy d sender recipients) r.reached all.0 (All-contains_itself all.0);
        more = omega (arith, r.long, h.more);
      }

  pub at_least_by : (ns : List Reached) → ArePairs g ns → HasAtLeastBy d sender recipients (length ns)
  at_least_by ns all =
      let ps = pairs_of ns (are_distinct ns all) (All-weaker (Contains ns) (IsReachedPair g) (λ n c. (all.members n).0 c) ns (All-contains_itself ns)) in
      let r = ps.1 in
      record {
        pairs = ps.0;
        distinct = r.distinct;
        reached = All-weaker (Contains ps.0) (IsReachedBy d sender recipients) r.reached ps.0 (All-contains_itself ps.0);
        some = omega (arith, r.long);
      }

  -- the places of pairs in the list of their numbers
  module _ (pairs : List Reached) (all : ArePairs g pairs) where
    record IsAt (k : ℕ) (p : Pair) : Type 0 where
      pub numbers : Reached
      pub below : k < length pairs
      pub at : slice_get pairs k ≡ Some numbers
      pub are : AreNumbers numbers p

    place_of : (p : Pair) → IsReachedBy d sender recipients p → (k : ℕ) × IsAt k p
    place_of p r =
        let n = to_numbers d sender recipients g is p r in
        let c = (all.members n.0).1 n.1.reached in
        let at : slice_get pairs c.0 ≡ Some n.0 = slice_get-get_or pairs c.0 n.0 c.1 ∙ ap (λ (x : Reached). Some x) c.2 in
        let is_at : IsAt c.0 p = record { numbers = n.0; below = c.1; at = at; are = record { sender_at = n.1.sender; node_at = n.1.node } } in
        (c.0, is_at)

    one_at : (k : ℕ) (p q : Pair) → IsAt k p → IsAt k q → p ≡ q
    one_at k p q a b =
        let e : a.numbers ≡ b.numbers = same_Some a.numbers b.numbers (sym a.at ∙ b.at) in
        one_pair b.numbers p q (subst (λ (n : Reached). AreNumbers n p) e a.are) b.are

    record ArePlaces (ps : List Pair) (ks : List ℕ) : Type 0 where
      pub long : length ks ≡ length ps
      pub distinct : AllPairs (λ i j. i ≢ j) ks
      pub at : (k : ℕ) → Contains ks k → (p : Pair) × Contains ps p × IsAt k p

    places_of : (ps : List Pair) → AllPairs (λ p q. p ≢ q) ps → All (IsReachedBy d sender recipients) ps → (ks : List ℕ) × ArePlaces ps ks
    places_of [] apart reached =
        let none : ArePlaces [] [] = record { long = refl; distinct = pairs_none (λ i j. i ≢ j); at = λ k c. absurd (omega (arith, c.1)) } in
        ([], none)
    places_of (p ∷ ps) apart reached =
        let rest = places_of ps (pairs_tail (λ x y. x ≢ y) p ps apart) (All-tail (IsReachedBy d sender recipients) p ps reached) in
        let r = rest.1 in
        let has = place_of p (All-contains (IsReachedBy d sender recipients) (p ∷ ps) p reached (in_head p ps p refl)) in
        let places : ArePlaces (p ∷ ps) (has.0 ∷ rest.0) = record {
          long = ap suc r.long;
          distinct =
              AllPairs-cons (λ x y. x ≢ y) has.0 rest.0
              (All-weaker (Contains rest.0) (λ k. has.0 ≢ k)
              (λ k c same.
              let q = r.at k c in
              let e : p ≡ q.0 = one_at k p q.0 (subst (λ (x : ℕ). IsAt x p) same has.1) q.2 in
              All-contains (λ x. p ≢ x) ps q.0 (pairs_head (λ x y. x ≢ y) p ps apart) q.1 e) rest.0 (All-contains_itself rest.0)) r.distinct;
          at = λ k c.
              elim (cons_cases has.0 rest.0 k c) [
                | inl here ↦ (p, in_head p ps p refl, subst (λ (x : ℕ). IsAt x p) here has.1)
                | inr there ↦
                    let q = r.at k there in
                    (q.0, in_tail p ps q.0 q.1, q.2)
              ];
        } in
        (has.0 ∷ rest.0, places)

    pub at_most_by : (n : ℕ) → length pairs ≤ n → HasAtMostBy d sender recipients n
    at_most_by n few ps distinct reached =
        let places = places_of ps distinct reached in
        let ks : List ℕ = places.0 in
        let p = places.1 in
        let short : length ks ≤ length pairs =
        length-le_from_distinct_below ks (length pairs) (IsDistinct-from_AllPairs Decides-eqb ks p.distinct)
        (λ k found. (p.at k (Contains-from_any (λ x y e. (Decides-eqb x y).0 e) k ks found)).2.below) in
        omega (arith, short, p.long, few)
