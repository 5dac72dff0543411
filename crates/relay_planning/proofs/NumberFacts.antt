-- Nodes of a job and their numbers in its graph: targets and children, and loops of both.
use Rattle.std.proofs.Common.{◌≡◌, ◌≢◌, ℕ, zero, suc, ◌<◌, List, [], ◌∷◌, length, map, get_or, slice_get, All, AllPairs, Contains, Option, Some, refl, sym, ap, ◌∙◌, subst, inl, inr, arith}
use Rattle.std.proofs.lemmas.Bool.{cases_lt}
use Rattle.std.proofs.lemmas.Option.{same_Some, slice_get_within, get_or_from_slice_get}
use Rattle.std.proofs.lemmas.List.Elements.{Contains-get_or}
use Rattle.relay_text.specs.AddressParts.{AddressParts}
use Rattle.relay_rounds.specs.Walks.{IsWalk, IsOnCycle}
use Rattle.relay_tables.specs.declared.node.Node.{Node}
use Rattle.relay_tables.specs.Directory.{Directory}
use Rattle.relay_tables.specs.GraphParts.{GraphParts}
use Rattle.relay_tables.specs.Targets.{targets_of, recipient_target}
use Rattle.relay_tables.specs.Senders.{Sender}
use Rattle.relay_tables.specs.Graphs.{child_numbers, nodes_at, IsGraphFrom}
use Rattle.relay_planning.specs.Entries.{LeadsWithin}
use Rattle.relay_planning.proofs.Members.{Contains-map, Contains-from_map}

pub slice_get_below : {X : Type 0} (xs : List X) (n : ℕ) → n < length xs → (x : X) × (slice_get xs n ≡ Some x)
slice_get_below [] n h = absurd (omega arith)
slice_get_below (x ∷ xs) zero h = (x, refl)
slice_get_below (x ∷ xs) (suc n) h =
    let r = slice_get_below xs n (omega arith) in
    (r.0, r.1)

-- where all elements are distinct, each stands in one place
one_place : {X : Type 0} (xs : List X) (i j : ℕ) (x : X) → AllPairs (λ x y. x ≢ y) xs → slice_get xs i ≡ Some x → slice_get xs j ≡ Some x → i ≡ j
one_place xs i j x apart here there =
    let same : get_or xs i x ≡ get_or xs j x = get_or_from_slice_get xs i x x here ∙ sym (get_or_from_slice_get xs j x x there) in
    elim (cases_lt i j) [
      | inl before ↦ absurd (apart i j x before (slice_get_within xs j x there) same)
      | inr low ↦
          elim (cases_lt j i) [
            | inl after ↦ absurd (apart j i x after (slice_get_within xs i x here) (sym same))
            | inr high ↦ omega arith
          ]
    ]

module _ (d : Directory) (sender : Sender) (recipients : List AddressParts) (g : GraphParts) (is : IsGraphFrom d sender recipients g) where
  -- where numbers lead to targets, each target has its number, and each number its target
  module _ (X : Type 0) (target : X → Node) (numbers : List ℕ) (xs : List X) (e : nodes_at g numbers ≡ map (λ x. Some (target x)) xs) where
    number_at : (x : X) → Contains xs x → (c : ℕ) × Contains numbers c × (slice_get g.nodes c ≡ Some (target x))
    number_at x c =
        Contains-from_map (slice_get g.nodes) numbers (Some (target x))
        (subst (λ (ns : List (Option Node)). Contains ns (Some (target x))) (sym e) (Contains-map (λ (y : X). Some (target y)) xs x c))

    target_at : (c : ℕ) → Contains numbers c → (x : X) × Contains xs x × (slice_get g.nodes c ≡ Some (target x))
    target_at c h =
        let r = Contains-from_map (λ (y : X). Some (target y)) xs (slice_get g.nodes c)
        (subst (λ (ns : List (Option Node)). Contains ns (slice_get g.nodes c)) e (Contains-map (slice_get g.nodes) numbers c h)) in
        (r.0, r.1, sym r.2)

    numbers_within : All (λ n. n < length g.nodes) numbers
    numbers_within k other inside =
        let n : ℕ = get_or numbers k other in
        let x = target_at n (Contains-get_or numbers k other inside) in
        slice_get_within g.nodes n (target x.0) x.2

  pub leads_within : LeadsWithin g
  leads_within =
      record {
        roots = numbers_within AddressParts (recipient_target d) g.roots recipients is.roots;
        children = λ n below.
            let node = slice_get_below g.nodes n below in
            numbers_within Node (λ t. t) (child_numbers g n) (targets_of d node.0) (is.children n node.0 node.1);
      }

  -- the recipient of a root, and the root of a recipient
  pub root_at : (n : ℕ) → Contains g.roots n → (a : AddressParts) × Contains recipients a × (slice_get g.nodes n ≡ Some (recipient_target d a))
  root_at = target_at AddressParts (recipient_target d) g.roots recipients is.roots

  pub root_of : (a : AddressParts) → Contains recipients a → (n : ℕ) × Contains g.roots n × (slice_get g.nodes n ≡ Some (recipient_target d a))
  root_of = number_at AddressParts (recipient_target d) g.roots recipients is.roots

  -- the target of a child, and the child of a target
  module _ (n : ℕ) (node : Node) (here : slice_get g.nodes n ≡ Some node) where
    pub child_at : (c : ℕ) → Contains (child_numbers g n) c → (t : Node) × Contains (targets_of d node) t × (slice_get g.nodes c ≡ Some t)
    child_at = target_at Node (λ t. t) (child_numbers g n) (targets_of d node) (is.children n node here)

    pub child_of : (t : Node) → Contains (targets_of d node) t → (c : ℕ) × Contains (child_numbers g n) c × (slice_get g.nodes c ≡ Some t)
    child_of = number_at Node (λ t. t) (child_numbers g n) (targets_of d node) (is.children n node here)

  -- ---- loops
  abbrev IsChild : ℕ → ℕ → Type 0
  IsChild parent child = Contains (child_numbers g parent) child

  abbrev IsTarget : Node → Node → Type 0
  IsTarget from to = Contains (targets_of d from) to

  walk_of_nodes : (n m : ℕ) (node last : Node) (path : List ℕ) → slice_get g.nodes n ≡ Some node → slice_get g.nodes m ≡ Some last → IsWalk IsChild n path m → (nodes : List Node) × IsWalk IsTarget node nodes last
  walk_of_nodes n m node last [] here there same = ([], same_Some node last (sym here ∙ ap (slice_get g.nodes) same ∙ there))
  walk_of_nodes n m node last (c ∷ path) here there walk =
      let t = child_at n node here c walk.0 in
      let rest = walk_of_nodes c m t.0 last path t.2 there walk.1 in
      (t.0 ∷ rest.0, (t.1, rest.1))

  walk_of_numbers : (n m : ℕ) (node last : Node) (path : List Node) → slice_get g.nodes n ≡ Some node → slice_get g.nodes m ≡ Some last → IsWalk IsTarget node path last → (numbers : List ℕ) × IsWalk IsChild n numbers m
  walk_of_numbers n m node last [] here there same = ([], one_place g.nodes n m node is.distinct here (there ∙ ap (λ (x : Node). Some x) (sym same)))
  walk_of_numbers n m node last (t ∷ path) here there walk =
      let c = child_of n node here t walk.0 in
      let rest = walk_of_numbers c.0 m t last path c.2 there walk.1 in
      (c.0 ∷ rest.0, (c.1, rest.1))

  -- a node is on a loop where its number is
  module _ (n : ℕ) (node : Node) (here : slice_get g.nodes n ≡ Some node) where
    pub loop_of_node : IsOnCycle IsChild n → IsOnCycle IsTarget node
    loop_of_node loop =
        let t = child_at n node here loop.0 loop.2 in
        let rest = walk_of_nodes loop.0 n t.0 node loop.1 t.2 here loop.3 in
        (t.0, rest.0, t.1, rest.1)

    pub loop_of_number : IsOnCycle IsTarget node → IsOnCycle IsChild n
    loop_of_number loop =
        let c = child_of n node here loop.0 loop.2 in
        let rest = walk_of_numbers c.0 n loop.0 node loop.1 c.2 here loop.3 in
        (c.0, rest.0, c.1, rest.1)
