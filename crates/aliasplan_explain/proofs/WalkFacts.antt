-- Steps one after another, and what the nodes of a trail are.
use Rattle.std.proofs.Common.{◌≡◌, ℕ, zero, suc, ◌+◌, ◌<◌, List, [], ◌∷◌, ◌++◌, length, get_or, map, slice_get, Option, Some, None, option_map, refl, sym, ap, ◌∙◌, add-one, arith}
use Rattle.std.specs.Prelude.{All}
use Rattle.std.proofs.lemmas.List.Elements.{All-cons, All-nil, All-same}
use Rattle.std.proofs.lemmas.Option.{none-some, same_Some, slice_get-map, slice_get-get_or, slice_get_within}
use Rattle.relay_text.specs.AddressParts.{AddressParts}
use Rattle.relay_tables.specs.declared.node.Node.{Node}
use Rattle.relay_tables.specs.GraphParts.{GraphParts}
use Rattle.relay_tables.specs.Graphs.{child_numbers, nodes_at}
use Rattle.relay_tables.specs.Targets.{recipient_target, targets_of}
use Rattle.relay_trails.specs.declared.found.Found.{Found}
use Rattle.relay_trails.specs.Trails.{AreNodesFrom, HasNodes}
use Rattle.relay_job.specs.declared.job.Job.{Job}
use Rattle.relay_explain.specs.declared.given_by.GivenBy.{GivenBy}
use Rattle.relay_planning.specs.Delivery.{directory_of, IsJobGraph}
use Rattle.aliasplan_explain.specs.ChainSteps.{IsGivenPast, given_past}

pub some_get : {X : Type 0} (xs : List X) (i : ℕ) → i < length xs → (x : X) × (slice_get xs i ≡ Some x)
some_get [] i h = absurd (omega arith)
some_get (x ∷ xs) i h = (get_or (x ∷ xs) i x, slice_get-get_or (x ∷ xs) i x h)

-- ---- where items lead
module _ (g : GraphParts) where
  -- as many nodes as items
  pub nodes_long : (items numbers : List ℕ) (at : ℕ) → AreNodesFrom g at items numbers → length numbers ≡ length items
  nodes_long [] numbers at h = ap length h
  nodes_long (item ∷ items) [] at h = absurd h
  nodes_long (item ∷ items) (to ∷ numbers) at h = ap suc (nodes_long items numbers to h.1)

  -- each item leads to the next node
  pub child_of : (items numbers : List ℕ) (at : ℕ) → AreNodesFrom g at items numbers → (k : ℕ) → k < length items → slice_get (child_numbers g (get_or (at ∷ numbers) k 0)) (get_or items k 0) ≡ Some (get_or numbers k 0)
  child_of [] numbers at h k short = absurd (omega arith)
  child_of (item ∷ items) [] at h k short = absurd h
  child_of (item ∷ items) (to ∷ numbers) at h zero short = h.0
  child_of (item ∷ items) (to ∷ numbers) at h (suc k) short = child_of items numbers to h.1 k (omega arith)

-- ---- what numbers stand for
named_by : {X : Type 0} (target : X → Node) (node : Option Node) (o : Option X) → Some node ≡ option_map (λ x. Some (target x)) o → (x : X) × (o ≡ Some x) × (node ≡ Some (target x))
named_by target node None e = absurd (none-some node (sym e))
named_by target node (Some x) e = (x, refl, same_Some node (Some (target x)) e)

named : {X : Type 0} (g : GraphParts) (target : X → Node) (numbers : List ℕ) (xs : List X) → nodes_at g numbers ≡ map (λ x. Some (target x)) xs → (i n : ℕ) → slice_get numbers i ≡ Some n → (x : X) × (slice_get xs i ≡ Some x) × (slice_get g.nodes n ≡ Some (target x))
named {X} g target numbers xs e i n at =
    let one : slice_get (nodes_at g numbers) i ≡ Some (slice_get g.nodes n) = slice_get-map (slice_get g.nodes) numbers i ∙ ap (option_map (slice_get g.nodes)) at in
    let other : slice_get (nodes_at g numbers) i ≡ option_map (λ x. Some (target x)) (slice_get xs i) = ap (λ (ns : List (Option Node)). slice_get ns i) e ∙ slice_get-map (λ (x : X). Some (target x)) xs i in
    named_by target (slice_get g.nodes n) (slice_get xs i) (sym one ∙ other)

module _ (job : Job) (g : GraphParts) (is : IsJobGraph job g) where
  pub root_node : (k root : ℕ) → slice_get g.roots k ≡ Some root → (a : AddressParts) × (slice_get job.recipients k ≡ Some a) × (slice_get g.nodes root ≡ Some (recipient_target (directory_of job) a))
  root_node k root at = named g (recipient_target (directory_of job)) g.roots job.recipients is.roots k root at

  pub child_node : (n : ℕ) (node : Node) → slice_get g.nodes n ≡ Some node → (item to : ℕ) → slice_get (child_numbers g n) item ≡ Some to → (target : Node) × (slice_get (targets_of (directory_of job) node) item ≡ Some target) × (slice_get g.nodes to ≡ Some target)
  child_node n node at item to is_child = named g (λ (t : Node). t) (child_numbers g n) (targets_of (directory_of job) node) (is.children n node at) item to is_child

  -- each node on the way is one of the graph
  pub nodes_inside : (items numbers : List ℕ) (at : ℕ) (node : Node) → slice_get g.nodes at ≡ Some node → AreNodesFrom g at items numbers → All (λ n. n < length g.nodes) (at ∷ numbers)
  nodes_inside [] numbers at node here h =
      All-cons (λ (n : ℕ). n < length g.nodes) at numbers (slice_get_within g.nodes at node here) (All-same (λ (n : ℕ). n < length g.nodes) numbers [] h (All-nil (λ (n : ℕ). n < length g.nodes)))
  nodes_inside (item ∷ items) [] at node here h = absurd h
  nodes_inside (item ∷ items) (to ∷ numbers) at node here h =
      let next = child_node at node here item to h.0 in
      All-cons (λ (n : ℕ). n < length g.nodes) at (to ∷ numbers) (slice_get_within g.nodes at node here) (nodes_inside items numbers to next.0 next.2 h.1)

  module _ (found : Found) (has : HasNodes g found) where
    pub all_inside : All (λ n. n < length g.nodes) found.nodes.items
    all_inside =
        let root = root_node found.recipient has.root has.root_is in
        All-same (λ (n : ℕ). n < length g.nodes) found.nodes.items (has.root ∷ has.more) has.nodes_are (nodes_inside found.items.items has.more has.root (recipient_target (directory_of job) root.0) root.2 has.lead)

    -- one node more than items
    pub one_more : length found.nodes.items ≡ length found.items.items + 1
    one_more = let long = nodes_long g found.items.items has.more has.root has.lead in ap length has.nodes_are ∙ omega (arith, long)

    pub first_is : get_or found.nodes.items 0 0 ≡ has.root
    first_is = ap (λ (ns : List ℕ). get_or ns 0 0) has.nodes_are

    pub item_leads : (k : ℕ) → k < length found.items.items → slice_get (child_numbers g (get_or found.nodes.items k 0)) (get_or found.items.items k 0) ≡ Some (get_or found.nodes.items (k + 1) 0)
    item_leads k short =
        let next : get_or found.nodes.items (k + 1) 0 ≡ get_or has.more k 0 = ap (λ (ns : List ℕ). get_or ns (k + 1) 0) has.nodes_are ∙ ap (λ (i : ℕ). get_or (has.root ∷ has.more) i 0) (add-one k) in
        ap (λ (ns : List ℕ). slice_get (child_numbers g (get_or ns k 0)) (get_or found.items.items k 0)) has.nodes_are
        ∙ child_of g found.items.items has.more has.root has.lead k short
        ∙ ap (λ (n : ℕ). Some n) (sym next)

-- ---- who gives the sender on the way
module _ (job : Job) (g : GraphParts) where
  pub past_more : (before : GivenBy) (numbers : List ℕ) (after : GivenBy) → IsGivenPast job g before numbers after → (n : ℕ) (node : Node) → slice_get g.nodes n ≡ Some node → IsGivenPast job g before (numbers ++ n ∷ []) (given_past job after node)
  past_more before [] after h n node at = (node, at, ap (λ (b : GivenBy). given_past job b node) h)
  past_more before (m ∷ numbers) after h n node at = (h.0, h.1, past_more (given_past job before h.0) numbers after h.2 n node at)
