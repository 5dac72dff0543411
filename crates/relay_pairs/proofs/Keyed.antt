-- Pairs by their keys.
use Rattle.std.proofs.Common.{◌≡◌, ◌≢◌, ℕ, ◌+◌, ◌*◌, ◌/◌, ◌%◌, ◌^◌, ◌<◌, List, [], ◌∷◌, length, map, get_or, All, AllPairs, Contains, refl, sym, ap, ◌∙◌, subst, inl, inr, arith}
use Rattle.std.specs.List.Sorted.{IsStrictlyIncreasing}
use Rattle.std.proofs.lemmas.Bool.{cases_lt, lt-ltb, le-ltb}
use Rattle.std.proofs.lemmas.List.{length-map, get_or-map}
use Rattle.std.proofs.lemmas.List.Elements.{All-map, All-contains, Contains-get_or}
use Rattle.std.proofs.lemmas.List.Kept.{AllPairs-from_increasing}
use Rattle.relay_rounds.specs.Closures.{IsReachedKey, IsClosureOf, HasMoreReached}
use Rattle.relay_tables.specs.GraphParts.{GraphParts}
use Rattle.relay_tables.specs.Graphs.{child_numbers, sender_number_after, IsClosedGraph}
use Rattle.relay_pairs.specs.declared.reached.Reached.{Reached}
use Rattle.relay_pairs.specs.Pairs.{key_of, pair_at, key_count, key_after, keys_from, keys_after, IsRoot, IsStep, IsReachedPair, ArePairs, HasMorePairs}
use Rattle.relay_pairs.specs.Bounds.{keys_after-below}
use Rattle.relay_pairs.proofs.Members.{Contains-map, Contains-from_map}
use Rattle.relay_pairs.proofs.Walking.{reached_start, reached_step, reached_all}

pair_is : (p q : Reached) → p.sender ≡ q.sender → p.node ≡ q.node → p ≡ q
pair_is p q s n =
    let half : p ≡ record { sender = q.sender; node = p.node } = ap (λ (x : ℕ). record { sender = x; node = p.node }) s in
    half ∙ ap (λ (x : ℕ). record { sender = q.sender; node = x }) n

key_at : (key : ℕ) → key_of (pair_at key) ≡ key
key_at key = omega arith

high : (s n : ℕ) → n < 2 ^ 24 → (s * 2 ^ 24 + n) / 2 ^ 24 ≡ s
high s n h = omega arith

low : (s n : ℕ) → n < 2 ^ 24 → (s * 2 ^ 24 + n) % 2 ^ 24 ≡ n
low s n h = omega arith

pair_of_key : (p : Reached) → p.node < 2 ^ 24 → pair_at (key_of p) ≡ p
pair_of_key p h = pair_is (pair_at (key_of p)) p (high p.sender p.node h) (low p.sender p.node h)

keys_at : (keys : List ℕ) → map key_of (map pair_at keys) ≡ keys
keys_at [] = refl
keys_at (key ∷ keys) = ap (λ (k : ℕ). k ∷ map key_of (map pair_at keys)) (key_at key) ∙ ap (λ (ks : List ℕ). key ∷ ks) (keys_at keys)

-- keys that rise are of distinct pairs
apart : (keys : List ℕ) → AllPairs (λ x y. x < y) keys → AllPairs (λ p q. p ≢ q) (map pair_at keys)
apart keys rising i j d before short same =
    let long : length (map pair_at keys) ≡ length keys = length-map keys pair_at in
    let j_short : j < length keys = omega (arith, short) in
    let i_short : i < length keys = omega (arith, before) in
    let x : ℕ = get_or keys i 0 in
    let y : ℕ = get_or keys j 0 in
    let less : x < y = rising i j 0 before j_short in
    let e : pair_at x ≡ pair_at y = sym (get_or-map pair_at keys i 0 d i_short) ∙ same ∙ get_or-map pair_at keys j 0 d j_short in
    let k : x ≡ y = sym (key_at x) ∙ ap key_of e ∙ key_at y in
    omega (arith, less, k)

module _ (g : GraphParts) (closed : IsClosedGraph g) where
  root_below : (n : ℕ) → Contains g.roots n → n < length g.nodes
  root_below n c = All-contains (λ (m : ℕ). m < length g.nodes) g.roots n closed.roots c

  child_below : (n c : ℕ) → n < length g.nodes → Contains (child_numbers g n) c → c < length g.nodes
  child_below n c below h = All-contains (λ (m : ℕ). m < length g.nodes) (child_numbers g n) c (closed.children n below) h

  root_pair : (key : ℕ) → Contains g.roots key → IsRoot g (pair_at key)
  root_pair key c =
      let below = root_below key c in
      let few = closed.few_nodes in
      let same : key ≡ key % 2 ^ 24 = omega arith in
      record { sender = omega arith; node = subst (Contains g.roots) same c }

  step_pair : (key next : ℕ) → Contains (keys_after g key) next → IsStep g (pair_at key) (pair_at next)
  step_pair key next c =
      let from : Reached = pair_at key in
      elim (cases_lt from.node (length g.nodes)) [
        | inl n_below ↦
            let r = Contains-from_map (key_after g from) (child_numbers g from.node) next (rw (lt-ltb from.node (length g.nodes) n_below) at c) in
            let below = child_below from.node r.0 n_below r.1 in
            let few : r.0 < 2 ^ 24 = omega (arith, below, closed.few_nodes) in
            let s : ℕ = sender_number_after g from.sender from.node in
            let sender : next / 2 ^ 24 ≡ s = ap (λ (k : ℕ). k / 2 ^ 24) (sym r.2) ∙ high s r.0 few in
            let node : r.0 ≡ next % 2 ^ 24 = sym (low s r.0 few) ∙ ap (λ (k : ℕ). k % 2 ^ 24) r.2 in
            record { child = subst (Contains (child_numbers g from.node)) node r.1; sender = sender }
        | inr outside ↦ let none : Contains {X = ℕ} [] next = rw (le-ltb from.node (length g.nodes) outside) at c in absurd (omega (arith, none.1))
      ]

  pair_reached : (key : ℕ) → IsReachedKey (keys_after g) g.roots key → IsReachedPair g (pair_at key)
  pair_reached =
      reached_all (Contains g.roots) (λ from to. Contains (keys_after g from) to) (λ key. IsReachedPair g (pair_at key))
      (λ key c. reached_start (IsRoot g) (IsStep g) (pair_at key) (root_pair key c))
      (λ key next r here step. reached_step (IsRoot g) (IsStep g) (pair_at key) (pair_at next) here (step_pair key next step))

  -- a pair whose key is reached, and whose node is one of the graph's
  record HasKey (p : Reached) : Type 0 where
    pub reached : IsReachedKey (keys_after g) g.roots (key_of p)
    pub node_below : p.node < length g.nodes

  few_node : (p : Reached) → HasKey p → p.node < 2 ^ 24
  few_node p h = omega (arith, h.node_below, closed.few_nodes)

  root_key : (p : Reached) → IsRoot g p → HasKey p
  root_key p root =
      let same : p.node ≡ key_of p = omega (arith, root.sender) in
      record {
        reached = reached_start (Contains g.roots) (λ from to. Contains (keys_after g from) to) (key_of p) (subst (Contains g.roots) same root.node);
        node_below = root_below p.node root.node;
      }

  step_key : (p q : Reached) → IsReachedPair g p → HasKey p → IsStep g p q → HasKey q
  step_key p q r h s =
      let listed : Contains (map (key_after g p) (child_numbers g p.node)) (key_after g p q.node) = Contains-map (key_after g p) (child_numbers g p.node) q.node s.child in
      let from_p : Contains (keys_from g p) (key_after g p q.node) = rw (lt-ltb p.node (length g.nodes) h.node_below) listed in
      let from_key : Contains (keys_after g (key_of p)) (key_after g p q.node) = subst (λ (x : Reached). Contains (keys_from g x) (key_after g p q.node)) (sym (pair_of_key p (few_node p h))) from_p in
      let same : key_after g p q.node ≡ key_of q = ap (λ (x : ℕ). x * 2 ^ 24 + q.node) (sym s.sender) in
      record {
        reached = reached_step (Contains g.roots) (λ from to. Contains (keys_after g from) to) (key_of p) (key_of q) h.reached (subst (Contains (keys_after g (key_of p))) same from_key);
        node_below = child_below p.node q.node h.node_below s.child;
      }

  key_reached : (p : Reached) → IsReachedPair g p → HasKey p
  key_reached = reached_all (IsRoot g) (IsStep g) HasKey root_key step_key

  pub node_reached : (p : Reached) → IsReachedPair g p → p.node < length g.nodes
  node_reached p r = (key_reached p r).node_below

  module _ (keys : List ℕ) (all : IsClosureOf (keys_after g) g.roots keys) where
    pub pairs_are : ArePairs g (map pair_at keys)
    pairs_are =
        record {
          ascending = subst IsStrictlyIncreasing (sym (keys_at keys)) all.ascending;
          members = λ p. (
            λ c.
                let r = Contains-from_map pair_at keys p c in
                subst (IsReachedPair g) r.2 (pair_reached r.0 ((all.members r.0).0 r.1)),
            λ r.
                let h = key_reached p r in
                subst (Contains (map pair_at keys)) (pair_of_key p (few_node p h)) (Contains-map pair_at keys (key_of p) ((all.members (key_of p)).1 h.reached)),
          );
        }

    root_in : (key : ℕ) → Contains g.roots key → key < key_count g
    root_in key c =
        let below = root_below key c in
        omega (arith, closed.few_nodes, closed.some_sender)

    key_in : (key : ℕ) → Contains keys key → key < key_count g
    key_in key c =
        reached_all (Contains g.roots) (λ from to. Contains (keys_after g from) to) (λ x. x < key_count g) root_in
        (λ x y r here step. All-contains (λ (z : ℕ). z < key_count g) (keys_after g x) y (keys_after-below g closed x here) step) key ((all.members key).0 c)

    pub keys_below : All (λ key. key < 2 ^ 56) keys
    keys_below k d short =
        let below = key_in (get_or keys k d) (Contains-get_or keys k d short) in
        omega (arith, below, closed.few_senders)

    pub pairs_in_graph : All (λ p. (p.sender < length g.senders) × (p.node < length g.nodes)) (map pair_at keys)
    pairs_in_graph =
        All-map (λ p. (p.sender < length g.senders) × (p.node < length g.nodes)) pair_at keys
        (λ k d short.
        let key : ℕ = get_or keys k d in
        let c = Contains-get_or keys k d short in
        let below = key_in key c in
        (omega (arith, below), node_reached (pair_at key) (pair_reached key ((all.members key).0 c))))

  pub more_pairs : (n : ℕ) → HasMoreReached (keys_after g) g.roots n → HasMorePairs g n
  more_pairs n h =
      record {
        pairs = map pair_at h.keys;
        distinct = apart h.keys (AllPairs-from_increasing h.keys h.distinct);
        reached = All-map (IsReachedPair g) pair_at h.keys (λ k d short. pair_reached (get_or h.keys k d) (h.reached k d short));
        more = let e = length-map h.keys pair_at in let more = h.more in omega arith;
      }
