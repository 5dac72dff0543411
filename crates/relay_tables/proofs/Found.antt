-- Lemmas on what is found of a graph so far.
use Rattle.std.proofs.Common.{◌≡◌, ◌≢◌, ℕ, zero, suc, ◌+◌, ◌<◌, ◌≤◌, Bool, true, false, Option, Some, None, Err, Vec, Global, List, [], ◌∷◌, ◌++◌, length, map, take, get_or, slice_get, AllPairs, Contains, refl, sym, ap, ◌∙◌, subst, inl, inr, arith}
use Rattle.std.specs.Prelude.{unwrap_or}
use Rattle.std.specs.List.{All, flat_map, list_any}
use Rattle.std.specs.Cmp.{IsEquivalence}
use Rattle.std.proofs.lemmas.Bool.{cases_Bool, cases_eq, cases_lt, both_ways}
use Rattle.std.proofs.lemmas.List.{length_push, get_or_push, get_or_append_left, map_push, take_all, take_more, take-append-le}
use Rattle.std.proofs.lemmas.List.Elements.{All-nil, All-push, All-head, All-tail, All-contains, All-weaker, All-contains_itself, Contains-append_left, Contains-append_right}
use Rattle.std.proofs.lemmas.List.Quantifiers.{all_pairs_push}
use Rattle.std.proofs.lemmas.Map.Made.{length-le_from_is_member, IsDistinct-from_AllPairs}
use Rattle.std.proofs.lemmas.Map.Views.{Contains-from_any, list_any-from_Contains}
use Rattle.std.proofs.lemmas.Option.{none-some, same_Some, slice_get_within, slice_get-get_or, get_or_from_slice_get, unwrap_or-slice_get}
use Rattle.relay_text.specs.AddressParts.{AddressParts}
use Rattle.relay_tables.specs.declared.node.Node.{Node}
use Rattle.relay_tables.specs.declared.node.Node.TheVariants.{Alias, Include, Mailbox, Remote, Missing, NoInclude, Command, File}
use Rattle.relay_tables.specs.declared.fault.TableFault.{TableFault}
use Rattle.relay_tables.specs.declared.fault.TableFault.TheVariants.{TooManyNames}
use Rattle.relay_tables.specs.declared.reaching.Reach.{Reach}
use Rattle.relay_tables.specs.Directory.{Directory}
use Rattle.relay_tables.specs.Adjacency.{row_of}
use Rattle.relay_tables.specs.Targets.{targets_of, recipient_target}
use Rattle.relay_tables.specs.Senders.{Sender, sender_by, sender_or, sender_past}
use Rattle.relay_tables.specs.Graphs.{entry_nodes, nodes_of, same_node, IsGraphFrom}
use Rattle.relay_tables.specs.Numbering.{Numbered, Numbers, with_node, with_nodes, with_all}
use Rattle.relay_tables.specs.Rowing.{nodes_in, some_of, LeadTo}
use Rattle.relay_tables.specs.Sending.{IsOwnedBy}
use Rattle.relay_tables.specs.Reaches.{owner_at, MayAddSender, AreFound, IsReach}
use Rattle.relay_tables.proofs.NodeKeys.{node_true, node_same, any_at}
use Rattle.relay_tables.proofs.Firsts.{firsts-from, grows, no_fewer, stays, with_node-there, with_node-new}
use Rattle.relay_tables.proofs.Numbers.{length-entries, entry_alias, entry_include}
use Rattle.relay_tables.proofs.RowSteps.{row_stays, rows_push}
use Rattle.relay_tables.proofs.Turning.{map_after}
use Rattle.relay_tables.proofs.SenderSteps.{of_stays, owned_stays, owned_none}
use Rattle.relay_tables.proofs.Assembled.{alias_past, include_past, sets_sender}

-- nodes that come one by one are distinct, and what is true of each of them stays so
one_distinct : (nodes : List Node) (n : Node) → AllPairs (λ x y. x ≢ y) nodes → AllPairs (λ x y. x ≢ y) (with_node nodes n)
one_distinct nodes n distinct =
    elim (cases_Bool (list_any (same_node n) nodes)) [
      | inl there ↦ subst (λ (ns : List Node). AllPairs (λ x y. x ≢ y) ns) (sym (with_node-there nodes n there)) distinct
      | inr new ↦
          subst (λ (ns : List Node). AllPairs (λ x y. x ≢ y) ns) (sym (with_node-new nodes n new))
          (all_pairs_push (λ x y. x ≢ y) nodes n distinct (λ k d below same.
          both_ways (list_any (same_node n) nodes) new (any_at nodes k n (slice_get-get_or nodes k d below ∙ ap (λ (x : Node). Some x) same))))
    ]

pub still_distinct : (nodes xs : List Node) → AllPairs (λ x y. x ≢ y) nodes → AllPairs (λ x y. x ≢ y) (with_nodes nodes xs)
unfolding with_nodes
still_distinct nodes [] distinct = distinct
still_distinct nodes (x ∷ xs) distinct = still_distinct (with_node nodes x) xs (one_distinct nodes x distinct)

one_all : (P : Node → Type 0) (nodes : List Node) (n : Node) → All P nodes → P n → All P (with_node nodes n)
one_all P nodes n all is =
    elim (cases_Bool (list_any (same_node n) nodes)) [
      | inl there ↦ subst (λ (ns : List Node). All P ns) (sym (with_node-there nodes n there)) all
      | inr new ↦ subst (λ (ns : List Node). All P ns) (sym (with_node-new nodes n new)) (All-push P nodes n all is)
    ]

pub still_all : (P : Node → Type 0) (nodes xs : List Node) → All P nodes → All P xs → All P (with_nodes nodes xs)
unfolding with_nodes
still_all P nodes [] all more = all
still_all P nodes (x ∷ xs) all more = still_all P (with_node nodes x) xs (one_all P nodes x all (All-head P x xs more)) (All-tail P x xs more)

-- of distinct nodes, each of which is among others, there are no more than of those
same_both : (m n : Node) → same_node m n ≡ same_node n m
same_both m n = at (same_node m n) refl (same_node n m) refl where
  at : (a : Bool) → same_node m n ≡ a → (b : Bool) → same_node n m ≡ b → a ≡ b
  at true e true f = refl
  at false e false f = refl
  at true e false f = absurd (both_ways (same_node n m) f (node_same n m (sym (node_true m n e))))
  at false e true f = absurd (both_ways (same_node m n) e (node_same m n (sym (node_true n m f))))

same_laws : IsEquivalence same_node
same_laws = record {
  refl = λ n. node_same n n refl;
  symm = same_both;
  congr = λ m n o e. ap (λ (x : Node). same_node x o) (node_true m n e);
}

pub no_more_than : (nodes others : List Node) → AllPairs (λ x y. x ≢ y) nodes → All (λ n. Contains others n) nodes → length nodes ≤ length others
no_more_than nodes others distinct within =
    length-le_from_is_member same_laws nodes others (IsDistinct-from_AllPairs (λ m n. (node_true m n, node_same m n)) nodes distinct)
    (λ n found. list_any-from_Contains same_laws n others (All-contains (λ x. Contains others x) nodes n within (Contains-from_any node_true n nodes found)))

-- a node is there once it has come
kept : (nodes xs : List Node) (n : Node) → Contains nodes n → Contains (with_nodes nodes xs) n
kept nodes xs n there =
    let g = grows nodes xs in
    subst (λ (ns : List Node). Contains ns n) (sym g.1) (Contains-append_left nodes g.0 n there)

came : (nodes : List Node) (n : Node) → Contains (with_node nodes n) n
came nodes n =
    elim (cases_Bool (list_any (same_node n) nodes)) [
      | inl there ↦ subst (λ (ns : List Node). Contains ns n) (sym (with_node-there nodes n there)) (Contains-from_any node_true n nodes there)
      | inr new ↦ subst (λ (ns : List Node). Contains ns n) (sym (with_node-new nodes n new)) (Contains-append_right nodes (n ∷ []) n (0, omega arith, refl))
    ]

came_at : (nodes xs : List Node) (n : Node) (k : ℕ) → k < length xs → get_or xs k n ≡ n → Contains (with_nodes nodes xs) n
unfolding with_nodes
came_at nodes [] n k below is = absurd (omega arith)
came_at nodes (x ∷ xs) n zero below is = kept (with_node nodes x) xs n (subst (λ (m : Node). Contains (with_node nodes x) m) is (came nodes x))
came_at nodes (x ∷ xs) n (suc k) below is = came_at (with_node nodes x) xs n k (omega arith) is

flat_at : (f : Node → List Node) (ns : List Node) (n t : Node) (k : ℕ) → k < length ns → get_or ns k n ≡ n → Contains (f n) t → Contains (flat_map f ns) t
flat_at f [] n t k below is there = absurd (omega arith)
flat_at f (m ∷ ms) n t zero below is there = Contains-append_left (f m) (flat_map f ms) t (subst (λ (x : Node). Contains (f x) t) (sym is) there)
flat_at f (m ∷ ms) n t (suc k) below is there = Contains-append_right (f m) (flat_map f ms) t (flat_at f ms n t k (omega arith) is there)

-- a row of rows that lead somewhere
lead_at : (nodes : List Node) (rows : List (List ℕ)) (tss : List (List Node)) (k : ℕ) (ts : List Node) → LeadTo nodes rows tss → slice_get tss k ≡ Some ts → nodes_in nodes (row_of rows k) ≡ some_of ts
lead_at nodes [] [] k ts e at = absurd (none-some ts at)
lead_at nodes [] (us ∷ uss) k ts e at = cc
lead_at nodes (row ∷ rows) [] k ts e at = cc
lead_at nodes (row ∷ rows) (us ∷ uss) zero ts e at =
    let first : nodes_in nodes row ≡ some_of us = cc in
    first ∙ ap some_of (same_Some us ts at)
lead_at nodes (row ∷ rows) (us ∷ uss) (suc k) ts e at =
    let rest : map (nodes_in nodes) rows ≡ map some_of uss = cc in
    lead_at nodes rows uss k ts rest at

targets_at : (f : Node → List Node) (nodes : List Node) (k : ℕ) (n : Node) → slice_get nodes k ≡ Some n → slice_get (map f nodes) k ≡ Some (f n)
targets_at f [] k n at = absurd (none-some n at)
targets_at f (m ∷ ms) zero n at = ap (λ (x : Node). Some (f x)) (same_Some m n at)
targets_at f (m ∷ ms) (suc k) n at = targets_at f ms k n at

module _ (d : Directory) where
  -- the sender past a node is that of its owner
  past_owner : (s : Sender) (n : Node) → sender_or d s (owner_at d n) ≡ sender_past d s n
  past_owner s (Alias k) = refl
  past_owner s (Include k) = refl
  past_owner s (Mailbox a) = refl
  past_owner s (Remote a) = refl
  past_owner s (Missing t) = refl
  past_owner s (NoInclude t) = refl
  past_owner s (Command t) = refl
  past_owner s (File t) = refl

  module _ (recipients : List AddressParts) where
    abbrev all : List Node
    all = nodes_of d recipients

    abbrev of_tables : List Node
    of_tables = with_nodes (entry_nodes d) (flat_map (targets_of d) (entry_nodes d))

    made : with_nodes of_tables (map (recipient_target d) recipients) ≡ all
    made = sym (firsts-from (length d.aliases) (length d.includes) (flat_map (targets_of d) (entry_nodes d)) (map (recipient_target d) recipients))

    -- the recipients' targets, and those of each node, are all among the nodes
    pub roots_within : All (λ n. Contains all n) (map (recipient_target d) recipients)
    roots_within =
        let roots = map (recipient_target d) recipients in
        All-weaker (Contains roots) (λ n. Contains all n) (λ n c. subst (λ (ns : List Node). Contains ns n) made (came_at of_tables roots n c.0 c.1 c.2)) roots (All-contains_itself roots)

    entry_within : (n : Node) (k : ℕ) → k < length (entry_nodes d) → get_or (entry_nodes d) k n ≡ n → All (λ t. Contains all t) (targets_of d n)
    entry_within n k below is =
        All-weaker (Contains (targets_of d n)) (λ t. Contains all t)
        (λ t c.
        let there = flat_at (targets_of d) (entry_nodes d) n t k below is c in
        subst (λ (ns : List Node). Contains ns t) made (kept of_tables (map (recipient_target d) recipients) t (came_at (entry_nodes d) (flat_map (targets_of d) (entry_nodes d)) t there.0 there.1 there.2)))
        (targets_of d n) (All-contains_itself (targets_of d n))

    none_within : (ts : List Node) → ts ≡ [] → All (λ t. Contains all t) ts
    none_within ts none = subst (λ (xs : List Node). All (λ t. Contains all t) xs) (sym none) (All-nil (λ t. Contains all t))

    pub targets_within : (n : Node) → All (λ t. Contains all t) (targets_of d n)
    targets_within (Alias k) =
        elim (cases_lt k (length d.aliases)) [
          | inl below ↦ entry_within (Alias k) k (omega (arith, length-entries (length d.aliases) (length d.includes))) (entry_alias (length d.aliases) (length d.includes) k below)
          | inr past ↦ none_within (targets_of d (Alias k)) (alias_past d k past)
        ]
    targets_within (Include k) =
        elim (cases_lt k (length d.includes)) [
          | inl below ↦
              entry_within (Include k) (length d.aliases + k) (omega (arith, length-entries (length d.aliases) (length d.includes))) (entry_include (length d.aliases) (length d.includes) k below)
          | inr past ↦ none_within (targets_of d (Include k)) (include_past d k past)
        ]
    targets_within (Mailbox a) = All-nil (λ t. Contains all t)
    targets_within (Remote a) = All-nil (λ t. Contains all t)
    targets_within (Missing t) = All-nil (λ t. Contains all t)
    targets_within (NoInclude t) = All-nil (λ t. Contains all t)
    targets_within (Command t) = All-nil (λ t. Contains all t)
    targets_within (File t) = All-nil (λ t. Contains all t)

    pub found_none : AreFound d recipients []
    found_none = record { distinct = λ i j d before below. absurd (omega arith); within = All-nil (λ n. Contains all n) }

    pub found_more : (nodes ts : List Node) → AreFound d recipients nodes → All (λ t. Contains all t) ts → AreFound d recipients (with_nodes nodes ts)
    found_more nodes ts found more = record {
      distinct = still_distinct nodes ts found.distinct;
      within = still_all (λ n. Contains all n) nodes ts found.within more;
    }

    -- where more nodes than the limit are found, there are more
    pub found_too_many : (A : Type 0) (e : TableFault) (names : ℕ) (old new : Numbered) (ts : List Node) → AreFound d recipients old.nodes → All (λ t. Contains all t) ts → old.limit ≡ names
        → Numbers {A = A} old ts (Err e) new → e ≡ TooManyNames → names < length all
    found_too_many A e names old new ts found more is h same =
        let full : old.limit < length (with_nodes old.nodes ts) = subst (λ (x : TableFault). Numbers {A = A} old ts (Err x) new) same h in
        let f = found_more old.nodes ts found more in
        omega (arith, is, full, no_more_than (with_nodes old.nodes ts) all f.distinct f.within)

  -- one more row
  rows_step : (nodes new : List Node) (rows longer : List (List ℕ)) (row : List ℕ) (n : Node) → slice_get nodes (length rows) ≡ Some n → new ≡ with_nodes nodes (targets_of d n)
      → nodes_in new row ≡ some_of (targets_of d n) → longer ≡ rows ++ row ∷ []
      → LeadTo nodes rows (map (targets_of d) (take (length rows) nodes)) → LeadTo new longer (map (targets_of d) (take (length longer) new))
  rows_step nodes new rows longer row n at is lead pushed before =
      let below : length rows < length nodes = slice_get_within nodes (length rows) n at in
      let g = grows nodes (targets_of d n) in
      let grown : new ≡ nodes ++ g.0 = is ∙ g.1 in
      let now : slice_get new (length rows) ≡ Some n = ap (λ (ns : List Node). slice_get ns (length rows)) is ∙ stays nodes (targets_of d n) (length rows) n at in
      let count : length longer ≡ length rows + 1 = ap length pushed ∙ length_push rows row in
      let first : take (length rows) new ≡ take (length rows) nodes = ap (take (length rows)) grown ∙ take-append-le (length rows) nodes g.0 (omega arith) in
      let last : get_or new (length rows) n ≡ n = get_or_from_slice_get new (length rows) n n now in
      let taken : take (length longer) new ≡ take (length rows) nodes ++ n ∷ [] =
      ap (λ (k : ℕ). take k new) count
      ∙ take_more new (length rows) n (slice_get_within new (length rows) n now)
      ∙ ap (λ (ns : List Node). ns ++ get_or new (length rows) n ∷ []) first
      ∙ ap (λ (m : Node). take (length rows) nodes ++ m ∷ []) last in
      let targets : map (targets_of d) (take (length longer) new) ≡ map (targets_of d) (take (length rows) nodes) ++ targets_of d n ∷ [] =
      ap (map (targets_of d)) taken ∙ map_push (targets_of d) (take (length rows) nodes) n in
      ap (map (nodes_in new)) pushed
      ∙ rows_push nodes new rows (map (targets_of d) (take (length rows) nodes)) row (targets_of d n) before is lead
      ∙ ap (map some_of) (sym targets)

  -- one more node's sender
  abbrev AreOwners : List Node → ℕ → List Sender → List (Option ℕ) → Type 0
  AreOwners nodes count senders owners = (k : ℕ) (n : Node) → k < count → slice_get nodes k ≡ Some n → IsOwnedBy d senders (get_or owners k None) (owner_at d n)

  owners_step : (nodes ts : List Node) (old new : List Sender) (owners : List (Option ℕ)) (owner : Option ℕ) (count : ℕ) (n : Node) → slice_get nodes count ≡ Some n → length owners ≡ count
      → MayAddSender d old new → IsOwnedBy d new owner (owner_at d n) → AreOwners nodes count old owners → AreOwners (with_nodes nodes ts) (count + 1) new (owners ++ owner ∷ [])
  owners_step nodes ts old new owners owner count n at long may here before k m below at_k =
      elim (cases_eq k count) [
        | inl same ↦
            let there : slice_get (with_nodes nodes ts) k ≡ Some n = stays nodes ts k n (ap (slice_get nodes) same ∙ at) in
            let node : n ≡ m = same_Some n m (sym there ∙ at_k) in
            let number : get_or (owners ++ owner ∷ []) k None ≡ owner = get_or_push owners owner None k (long ∙ sym same) in
            subst (λ (o : Option ℕ). IsOwnedBy d new o (owner_at d m)) (sym number) (subst (λ (x : Node). IsOwnedBy d new owner (owner_at d x)) node here)
        | inr other ↦
            let earlier : k < count = omega arith in
            let within : k < length nodes = omega (arith, slice_get_within nodes count n at) in
            let was : slice_get nodes k ≡ Some (get_or nodes k m) = slice_get-get_or nodes k m within in
            let node : get_or nodes k m ≡ m = same_Some (get_or nodes k m) m (sym (stays nodes ts k (get_or nodes k m) was) ∙ at_k) in
            let number : get_or (owners ++ owner ∷ []) k None ≡ get_or owners k None = get_or_append_left owners (owner ∷ []) None k (omega (arith, long)) in
            let kept_owner = owned_stays d may.0 old new (get_or owners k None) (owner_at d m) may.1 (before k m earlier (was ∙ ap (λ (x : Node). Some x) node)) in
            subst (λ (o : Option ℕ). IsOwnedBy d new o (owner_at d m)) (sym number) kept_owner
      ]

  one_sender : (old new : List Sender) → MayAddSender d old new → length new ≤ length old + 1
  one_sender old new (alias, inl same) = omega (arith, ap length same)
  one_sender old new (alias, inr added) = omega (arith, ap length added.2, length_push old (Some (sender_by d added.0)))

  module _ (sender : Sender) (recipients : List AddressParts) where
    -- the recipients' targets alone
    pub reach_start : (found : Reach) (s : Numbered) → s.nodes ≡ [] → found.names ≡ with_all s (map (recipient_target d) recipients)
        → nodes_in found.names.nodes found.roots.items ≡ some_of (map (recipient_target d) recipients) → found.children ≡ [] → found.senders ≡ sender ∷ [] → found.owners.items ≡ []
        → IsReach d sender recipients found
    reach_start found s none names roots children senders owners =
        let start : AreFound d recipients s.nodes = subst (AreFound d recipients) (sym none) (found_none recipients) in
        let count : length found.children ≡ 0 = ap length children in
        record {
          nodes = subst (λ (m : Numbered). AreFound d recipients m.nodes) (sym names) (found_more recipients s.nodes (map (recipient_target d) recipients) start (roots_within recipients));
          roots = roots;
          few_rows = omega (arith, count);
          rows =
              ap (map (nodes_in found.names.nodes)) children
              ∙ ap (λ (k : ℕ). map some_of (map (targets_of d) (take k found.names.nodes))) (sym count);
          few_senders = omega (arith, ap length senders);
          senders = (owned_none d sender found.senders senders).senders_are;
          few_owners = ap length owners ∙ sym count;
          owned = λ k n below. absurd (omega (arith, count, below));
        }

    -- what the first node without a row leads to
    pub reach_step : (old new : Reach) (n : Node) (row : List ℕ) (owner : Option ℕ) → slice_get old.names.nodes (length old.children) ≡ Some n
        → new.names ≡ with_all old.names (targets_of d n) → nodes_in new.names.nodes row ≡ some_of (targets_of d n) → new.roots ≡ old.roots → new.children ≡ old.children ++ row ∷ []
        → MayAddSender d old.senders new.senders → new.owners.items ≡ old.owners.items ++ owner ∷ [] → IsOwnedBy d new.senders owner (owner_at d n)
        → IsReach d sender recipients old → IsReach d sender recipients new
    reach_step old new n row owner at names lead roots children may owners here r =
        let ts = targets_of d n in
        let is : new.names.nodes ≡ with_nodes old.names.nodes ts = ap (λ (m : Numbered). m.nodes) names in
        let count : length new.children ≡ length old.children + 1 = ap length children ∙ length_push old.children row in
        let below = slice_get_within old.names.nodes (length old.children) n at in
        record {
          nodes = subst (AreFound d recipients) (sym is) (found_more recipients old.names.nodes ts r.nodes (targets_within recipients n));
          roots =
              ap (λ (v : Vec ℕ Global). nodes_in new.names.nodes v.items) roots
              ∙ ap (λ (ns : List Node). nodes_in ns old.roots.items) is
              ∙ row_stays old.names.nodes ts old.roots.items (map (recipient_target d) recipients) r.roots;
          few_rows = omega (arith, count, below, ap length is, no_fewer old.names.nodes ts);
          rows = rows_step old.names.nodes new.names.nodes old.children new.children row n at is lead children r.rows;
          few_senders = omega (arith, count, r.few_senders, one_sender old.senders new.senders may);
          senders = of_stays d may.0 sender old.senders new.senders may.1 r.senders;
          few_owners = ap length owners ∙ length_push old.owners.items owner ∙ ap (λ (k : ℕ). k + 1) r.few_owners ∙ sym count;
          owned =
              let step = owners_step old.names.nodes ts old.senders new.senders old.owners.items owner (length old.children) n at r.few_owners may here r.owned in
              λ k m within at_k.
              subst (λ (os : List (Option ℕ)). IsOwnedBy d new.senders (get_or os k None) (owner_at d m)) (sym owners)
              (step k m (omega (arith, count, within)) (ap (λ (ns : List Node). slice_get ns k) (sym is) ∙ at_k));
        }

    -- where each node has a row, that's the graph
    pub reach_graph : (found : Reach) → IsReach d sender recipients found → length found.children ≡ length found.names.nodes → AllPairs (λ s t. s ≢ t) found.senders
        → IsGraphFrom d sender recipients (record { nodes = found.names.nodes; children = found.children; roots = found.roots.items; senders = found.senders; owners = found.owners.items })
    reach_graph found r all_rows apart =
        let nodes : List Node = found.names.nodes in
        let rows : LeadTo nodes found.children (map (targets_of d) nodes) =
        r.rows ∙ ap (λ (ns : List Node). map some_of (map (targets_of d) ns)) (take_all (length found.children) nodes (omega (arith, all_rows))) in
        record {
          distinct = r.nodes.distinct;
          children = λ k n at. lead_at nodes found.children (map (targets_of d) nodes) k (targets_of d n) rows (targets_at (targets_of d) nodes k n at);
          roots = r.roots ∙ map_after (λ (x : Node). Some x) (recipient_target d) (λ (a : AddressParts). Some (recipient_target d a)) (λ a. refl) recipients;
          senders_distinct = apart;
          envelope_first = r.senders.first;
          other_senders = r.senders.others;
          after = λ s k a n at_s at_k.
              let below : k < length found.children = omega (arith, all_rows, slice_get_within nodes k n at_k) in
              ap (λ (x : Option ℕ). slice_get found.senders (unwrap_or x s)) (unwrap_or-slice_get found.owners.items k None)
              ∙ sets_sender d found.senders (get_or found.owners.items k None) (owner_at d n) s a (r.owned k n below at_k) at_s
              ∙ ap (λ (x : Sender). Some x) (past_owner a n);
        }
