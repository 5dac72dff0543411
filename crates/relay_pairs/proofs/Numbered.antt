-- Pairs of sender and node, and their numbers in a graph.
use Rattle.std.proofs.Common.{◌≡◌, ◌≢◌, ℕ, List, [], ◌∷◌, map, slice_get, AllPairs, Contains, Option, Some, refl, sym, ap, ◌∙◌, subst}
use Rattle.std.specs.Prelude.{option_map}
use Rattle.std.proofs.lemmas.Option.{same_Some, slice_get-map}
use Rattle.relay_text.specs.AddressParts.{AddressParts}
use Rattle.relay_tables.specs.declared.node.Node.{Node}
use Rattle.relay_tables.specs.Directory.{Directory}
use Rattle.relay_tables.specs.GraphParts.{GraphParts}
use Rattle.relay_tables.specs.Targets.{targets_of, recipient_target}
use Rattle.relay_tables.specs.Senders.{Sender, Pair, Step, sender_past}
use Rattle.relay_tables.specs.Graphs.{child_numbers, nodes_at, sender_number_after, IsGraphFrom}
use Rattle.relay_pairs.specs.declared.reached.Reached.{Reached}
use Rattle.relay_pairs.specs.Pairs.{with_root, IsRoot, IsStep, IsReachedPair}
use Rattle.relay_pairs.specs.Chains.{IsStart, IsReachedBy, IsRootOf, HasNumbers}
use Rattle.relay_pairs.proofs.Members.{Contains-map, Contains-from_map}
use Rattle.relay_pairs.proofs.Walking.{reached_start, reached_step, reached_all}

-- What numbers and targets need to have in common. A graph may have more nodes than the recipients lead to.
pub record Leads (d : Directory) (sender : Sender) (recipients : List AddressParts) (g : GraphParts) : Type 0 where
  pub distinct : AllPairs (λ m n. m ≢ n) g.nodes
  pub children : (k : ℕ) (n : Node) → slice_get g.nodes k ≡ Some n → nodes_at g (child_numbers g k) ≡ map (λ t. Some t) (targets_of d n)
  pub roots : nodes_at g g.roots ≡ map (λ a. Some (recipient_target d a)) recipients
  pub senders_distinct : AllPairs (λ s t. s ≢ t) g.senders
  pub envelope_first : slice_get g.senders 0 ≡ Some sender
  pub after : (s k : ℕ) (a : Sender) (n : Node) → slice_get g.senders s ≡ Some a → slice_get g.nodes k ≡ Some n → slice_get g.senders (sender_number_after g s k) ≡ Some (sender_past d a n)

pub leads : (d : Directory) (sender : Sender) (recipients : List AddressParts) (g : GraphParts) → IsGraphFrom d sender recipients g → Leads d sender recipients g
leads d sender recipients g is = record {
  distinct = is.distinct;
  children = is.children;
  roots = is.roots;
  senders_distinct = is.senders_distinct;
  envelope_first = is.envelope_first;
  after = is.after;
}

-- a message to one of the recipients alone, in the same graph
pub leads_from : (d : Directory) (sender : Sender) (recipients : List AddressParts) (g : GraphParts) → IsGraphFrom d sender recipients g
    → (k : ℕ) (recipient : AddressParts) (root : ℕ) → IsRootOf recipients g k recipient root → Leads d sender (recipient ∷ []) (with_root g root)
leads_from d sender recipients g is k recipient root at =
    let at_number : slice_get (nodes_at g g.roots) k ≡ Some (slice_get g.nodes root) = slice_get-map (slice_get g.nodes) g.roots k ∙ ap (option_map (slice_get g.nodes)) at.number in
    let at_target : slice_get (map (λ (a : AddressParts). Some (recipient_target d a)) recipients) k ≡ Some (Some (recipient_target d recipient)) =
    slice_get-map (λ (a : AddressParts). Some (recipient_target d a)) recipients k ∙ ap (option_map (λ (a : AddressParts). Some (recipient_target d a))) at.is in
    let here : slice_get g.nodes root ≡ Some (recipient_target d recipient) =
    same_Some (slice_get g.nodes root) (Some (recipient_target d recipient)) (sym at_number ∙ ap (λ (ns : List (Option Node)). slice_get ns k) is.roots ∙ at_target) in
    record {
      distinct = is.distinct;
      children = is.children;
      roots = ap (λ (o : Option Node). o ∷ []) here;
      senders_distinct = is.senders_distinct;
      envelope_first = is.envelope_first;
      after = is.after;
    }

module _ (d : Directory) (sender : Sender) (recipients : List AddressParts) (g : GraphParts) (is : Leads d sender recipients g) where
  -- where numbers lead to targets, each target has its number, and each number its target
  module _ (X : Type 0) (target : X → Node) (numbers : List ℕ) (xs : List X) (e : nodes_at g numbers ≡ map (λ x. Some (target x)) xs) where
    number_at : (x : X) → Contains xs x → (c : ℕ) × Contains numbers c × (slice_get g.nodes c ≡ Some (target x))
    number_at x c =
        Contains-from_map (slice_get g.nodes) numbers (Some (target x))
        (subst (λ (ns : List (Option Node)). Contains ns (Some (target x))) (sym e) (Contains-map (λ (y : X). Some (target y)) xs x c))

    target_at : (c : ℕ) → Contains numbers c → (x : X) × Contains xs x × (slice_get g.nodes c ≡ Some (target x))
    target_at c h =
        let r = Contains-from_map (λ (y : X). Some (target y)) xs (slice_get g.nodes c)
        (subst (λ (ns : List (Option Node)). Contains ns (slice_get g.nodes c)) e (Contains-map (slice_get g.nodes) numbers c h)) in
        (r.0, r.1, sym r.2)

  first_numbers : (pair : Pair) → IsStart d sender recipients pair → (n : Reached) × HasNumbers g pair n
  first_numbers pair start =
      let a = Contains-from_map (recipient_target d) recipients pair.node start.target in
      let c = number_at AddressParts (recipient_target d) g.roots recipients is.roots a.0 a.1 in
      let n : Reached = record { sender = 0; node = c.0 } in
      let root : IsRoot g n = record { sender = refl; node = c.1 } in
      let has : HasNumbers g pair n = record {
        reached = reached_start (IsRoot g) (IsStep g) n root;
        sender = is.envelope_first ∙ ap (λ (s : Sender). Some s) (sym start.envelope);
        node = c.2 ∙ ap (λ (m : Node). Some m) a.2;
      } in
      (n, has)

  next_numbers : (from to : Pair) → IsReachedBy d sender recipients from → (n : Reached) × HasNumbers g from n → Step d from to → (m : Reached) × HasNumbers g to m
  next_numbers from to r h s =
      let n = h.0 in
      let c = number_at Node (λ t. t) (child_numbers g n.node) (targets_of d from.node) (is.children n.node from.node h.1.node) to.node s.target in
      let m : Reached = record { sender = sender_number_after g n.sender n.node; node = c.0 } in
      let step : IsStep g n m = record { child = c.1; sender = refl } in
      let has : HasNumbers g to m = record {
        reached = reached_step (IsRoot g) (IsStep g) n m h.1.reached step;
        sender = is.after n.sender n.node from.sender from.node h.1.sender h.1.node ∙ ap (λ (a : Sender). Some a) (sym s.sender);
        node = c.2;
      } in
      (m, has)

  pub to_numbers : (pair : Pair) → IsReachedBy d sender recipients pair → (n : Reached) × HasNumbers g pair n
  to_numbers = reached_all (IsStart d sender recipients) (Step d) (λ pair. (n : Reached) × HasNumbers g pair n) first_numbers next_numbers

  -- the pair of some numbers
  pub record HasPair (n : Reached) : Type 0 where
    pub pair : Pair
    pub reached : IsReachedBy d sender recipients pair
    pub sender_at : slice_get g.senders n.sender ≡ Some pair.sender
    pub node_at : slice_get g.nodes n.node ≡ Some pair.node

  first_pair : (n : Reached) → IsRoot g n → HasPair n
  first_pair n root =
      let a = target_at AddressParts (recipient_target d) g.roots recipients is.roots n.node root.node in
      let pair : Pair = record { sender = sender; node = recipient_target d a.0 } in
      let start : IsStart d sender recipients pair = record { envelope = refl; target = Contains-map (recipient_target d) recipients a.0 a.1 } in
      record {
        pair = pair;
        reached = reached_start (IsStart d sender recipients) (Step d) pair start;
        sender_at = ap (slice_get g.senders) root.sender ∙ is.envelope_first;
        node_at = a.2;
      }

  next_pair : (n m : Reached) → IsReachedPair g n → HasPair n → IsStep g n m → HasPair m
  next_pair n m r h s =
      let t = target_at Node (λ t. t) (child_numbers g n.node) (targets_of d h.pair.node) (is.children n.node h.pair.node h.node_at) m.node s.child in
      let pair : Pair = record { sender = sender_past d h.pair.sender h.pair.node; node = t.0 } in
      let step : Step d h.pair pair = record { target = t.1; sender = refl } in
      record {
        pair = pair;
        reached = reached_step (IsStart d sender recipients) (Step d) h.pair pair h.reached step;
        sender_at = ap (slice_get g.senders) s.sender ∙ is.after n.sender n.node h.pair.sender h.pair.node h.sender_at h.node_at;
        node_at = t.2;
      }

  pub has_pair : (n : Reached) → IsReachedPair g n → HasPair n
  has_pair = reached_all (IsRoot g) (IsStep g) HasPair first_pair next_pair

  pub from_numbers : (pair : Pair) → (n : Reached) × HasNumbers g pair n → IsReachedBy d sender recipients pair
  from_numbers pair h =
      let p = has_pair h.0 h.1.reached in
      let senders : p.pair.sender ≡ pair.sender = same_Some p.pair.sender pair.sender (sym p.sender_at ∙ h.1.sender) in
      let nodes : p.pair.node ≡ pair.node = same_Some p.pair.node pair.node (sym p.node_at ∙ h.1.node) in
      let half : IsReachedBy d sender recipients (record { sender = pair.sender; node = p.pair.node }) = subst (λ (s : Sender). IsReachedBy d sender recipients (record { sender = s; node = p.pair.node })) senders p.reached in
      subst (λ (m : Node). IsReachedBy d sender recipients (record { sender = pair.sender; node = m })) nodes half
