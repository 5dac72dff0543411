-- The parts of a graph put together.
use Rattle.std.proofs.Common.{◌≡◌, ◌≢◌, ℕ, zero, suc, ◌+◌, ◌-◌, ◌<◌, ◌≤◌, Bool, false, cond, eqb, ltb, Option, Some, None, Err, List, [], ◌∷◌, ◌++◌, length, map, get_or, slice_get, refl, sym, ap, ◌∙◌, subst, arith, inl, inr}
use Rattle.std.specs.Prelude.{AllPairs, Contains, filter, unwrap_or, option_and_then}
use Rattle.std.specs.List.{All, concat, flat_map, list_any, range_with_len}
use Rattle.std.proofs.lemmas.Bool.{cases_lt, cond-true, cond-false, lt-ltb, le-ltb}
use Rattle.std.proofs.lemmas.List.{append-nil, append_assoc, length-map, length-append, get_or-map, get_or_append_left}
use Rattle.std.proofs.lemmas.List.Elements.{All-nil, All-cons, All-append, filter-append}
use Rattle.std.proofs.lemmas.List.FromFn.{get_or-map-range_with_len}
use Rattle.std.proofs.lemmas.Option.{same_Some, slice_get_past, slice_get_within, slice_get-get_or, get_or_from_slice_get, unwrap_or-slice_get}
use Rattle.relay_text.specs.AddressParts.{AddressParts}
use Rattle.relay_aliasfile.specs.declared.entry.Entry.{Entry}
use Rattle.relay_tables.specs.declared.node.Node.{Node}
use Rattle.relay_tables.specs.declared.node.Node.TheVariants.{Alias, Include, Mailbox, Remote, Missing, NoInclude, Command, File}
use Rattle.relay_tables.specs.declared.fault.TableFault.{TableFault}
use Rattle.relay_tables.specs.declared.fault.TableFault.TheVariants.{TooManyNames, TooManyOwners, Memory}
use Rattle.relay_tables.specs.Directory.{Directory}
use Rattle.relay_tables.specs.Adjacency.{row_of}
use Rattle.relay_tables.specs.Transpose.{rows_with}
use Rattle.relay_tables.specs.declared.include_entry.IncludeEntry.{IncludeEntry}
use Rattle.relay_tables.specs.Targets.{alias_number, item_target, items_of_entry, items_of_include, targets_of, recipient_target}
use Rattle.relay_tables.specs.Senders.{Sender, owner_name, owner_entry, sender_or, sender_past}
use Rattle.relay_tables.specs.Graphs.{entry_nodes, nodes_of, owner_count, refusal_of, IsGraphOf, Refuses}
use Rattle.relay_tables.specs.Numbering.{Numbered, Numbers, with_nodes, with_all}
use Rattle.relay_tables.specs.Rowing.{nodes_in, some_of, LeadTo}
use Rattle.relay_tables.specs.Sending.{IsOwnedBy, AreOwned}
use Rattle.relay_tables.specs.Building.{AreParents, AreRows}
use Rattle.relay_tables.proofs.Cuts.{row-past}
use Rattle.relay_tables.proofs.Runs.{range_more}
use Rattle.relay_tables.proofs.Turning.{map_after}
use Rattle.relay_tables.proofs.Firsts.{firsts-from, firsts-distinct, grows, no_fewer, with_nodes-append}
use Rattle.relay_tables.proofs.Numbers.{length-entries, entry_alias, entry_include}
use Rattle.relay_tables.proofs.RowSteps.{rows_stay, too_many, with_all-more}

-- numbers past the rows are in none
filter_past : (q : ℕ → Bool) (a m : ℕ) → ((k : ℕ) → a ≤ k → q k ≡ false) → filter q (range_with_len 0 (a + m)) ≡ filter q (range_with_len 0 a)
filter_past q a zero none = let same : a + 0 ≡ a = omega arith in ap (λ (n : ℕ). filter q (range_with_len 0 n)) same
filter_past q a (suc m) none =
    let next : a + suc m ≡ a + m + 1 = omega arith in
    let gone : filter q ((a + m) ∷ []) ≡ [] = cond-false (q (a + m)) ((a + m) ∷ []) [] (none (a + m) (omega arith)) in
    ap (λ (n : ℕ). filter q (range_with_len 0 n)) next
    ∙ ap (filter q) (range_more (a + m))
    ∙ filter-append q (range_with_len 0 (a + m)) ((a + m) ∷ [])
    ∙ ap (λ (xs : List ℕ). filter q (range_with_len 0 (a + m)) ++ xs) gone
    ∙ append-nil (filter q (range_with_len 0 (a + m)))
    ∙ filter_past q a m none

-- the parents of a node
pub parents_at : (count : ℕ) (children parents : List (List ℕ)) (n : ℕ) → AreParents count children parents → n < count
    → row_of parents n ≡ filter (λ p. list_any (λ c. eqb c n) (row_of children p)) (range_with_len 0 count)
parents_at count children parents n p below =
    let q : ℕ → Bool = λ k. list_any (λ c. eqb c n) (row_of children k) in
    let size : length children + (count - length children) ≡ count = omega (arith, p.few) in
    unwrap_or-slice_get parents n []
    ∙ ap (λ (rows : List (List ℕ)). get_or rows n []) p.parents_are
    ∙ get_or-map-range_with_len (rows_with children) 0 count n n [] below (omega arith)
    ∙ sym (filter_past q (length children) (count - length children) (λ k past. ap (list_any (λ c. eqb c n)) (row-past children k past)))
    ∙ ap (λ (m : ℕ). filter q (range_with_len 0 m)) size

-- each number of a row that leads somewhere is that of a node
pub row_below : {X : Type 0} (target : X → Node) (nodes : List Node) (row : List ℕ) (xs : List X) → nodes_in nodes row ≡ map (λ x. Some (target x)) xs → All (λ n. n < length nodes) row
row_below target nodes [] xs e = All-nil (λ n. n < length nodes)
row_below target nodes (k ∷ ks) [] e = cc
row_below {X} target nodes (k ∷ ks) (x ∷ xs) e =
    let first : slice_get nodes k ≡ Some (target x) = cc in
    let rest : nodes_in nodes ks ≡ map (λ (y : X). Some (target y)) xs = cc in
    All-cons (λ n. n < length nodes) k ks (slice_get_within nodes k (target x) first) (row_below target nodes ks xs rest)

-- what holds of the numbers of each row holds of all of them
pub rows_hold : (P : ℕ → Type 0) (rows : List (List ℕ)) → ((n : ℕ) → n < length rows → All P (row_of rows n)) → All P (concat rows)
rows_hold P [] each = All-nil P
rows_hold P (row ∷ rows) each = All-append P row (concat rows) (each 0 (omega arith)) (rows_hold P rows (λ n below. each (suc n) (omega (arith, below))))

module _ (d : Directory) where
  pub alias_past : (j : ℕ) → length d.aliases ≤ j → targets_of d (Alias j) ≡ []
  alias_past j past = ap (λ (e : Option Entry). map (item_target d (Some j)) (items_of_entry d e)) (slice_get_past d.aliases j past)

  pub include_past : (j : ℕ) → length d.includes ≤ j → targets_of d (Include j) ≡ []
  include_past j past = ap (λ (e : Option IncludeEntry). map (item_target d None) (items_of_include d e)) (slice_get_past d.includes j past)

  -- a node that is none of the entries has no targets, and leaves the sender
  no_targets : (n : Node) → ((j : ℕ) → j < length d.aliases → n ≡ Alias j → ⊥) → ((j : ℕ) → j < length d.includes → n ≡ Include j → ⊥) → targets_of d n ≡ []
  no_targets (Alias j) a i = elim (cases_lt j (length d.aliases)) [ inl below ↦ absurd (a j below refl) | inr past ↦ alias_past j past ]
  no_targets (Include j) a i = elim (cases_lt j (length d.includes)) [ inl below ↦ absurd (i j below refl) | inr past ↦ include_past j past ]
  no_targets (Mailbox x) a i = refl
  no_targets (Remote x) a i = refl
  no_targets (Missing x) a i = refl
  no_targets (NoInclude x) a i = refl
  no_targets (Command x) a i = refl
  no_targets (File x) a i = refl

  no_owner : (j : ℕ) → length d.aliases ≤ j → owner_entry d j ≡ None
  no_owner j past =
      ap (λ (e : Option Entry). option_and_then (λ owner. slice_get d.aliases owner) (option_and_then (λ x. alias_number d (owner_name d x)) e)) (slice_get_past d.aliases j past)

  keeps_sender : (n : Node) (s : Sender) → ((j : ℕ) → j < length d.aliases → n ≡ Alias j → ⊥) → sender_past d s n ≡ s
  keeps_sender (Alias j) s a = elim (cases_lt j (length d.aliases)) [ inl below ↦ absurd (a j below refl) | inr past ↦ ap (sender_or d s) (no_owner j past) ]
  keeps_sender (Include j) s a = refl
  keeps_sender (Mailbox x) s a = refl
  keeps_sender (Remote x) s a = refl
  keeps_sender (Missing x) s a = refl
  keeps_sender (NoInclude x) s a = refl
  keeps_sender (Command x) s a = refl
  keeps_sender (File x) s a = refl

  -- the sender after an alias
  pub sets_sender : (senders : List Sender) (number : Option ℕ) (owner : Option Entry) (s : ℕ) (a : Sender) → IsOwnedBy d senders number owner → slice_get senders s ≡ Some a
      → slice_get senders (unwrap_or number s) ≡ Some (sender_or d a owner)
  sets_sender senders None None s a h at = at
  sets_sender senders None (Some owner) s a h at = absurd h
  sets_sender senders (Some number) None s a h at = absurd h
  sets_sender senders (Some number) (Some owner) s a h at = h

  module _ (recipients : List AddressParts) (nodes : List Node) (rows : List (List ℕ)) (roots : List ℕ) (r : AreRows d recipients nodes rows roots) where
    -- the entries stand first
    behind : (more : List Node) × (nodes ≡ entry_nodes d ++ more)
    behind =
        let xs = flat_map (targets_of d) (entry_nodes d) in
        let ys = map (recipient_target d) recipients in
        let first = grows (entry_nodes d) xs in
        let last = grows (with_nodes (entry_nodes d) xs) ys in (
          first.0 ++ last.0,
          r.nodes_are
              ∙ firsts-from (length d.aliases) (length d.includes) xs ys
              ∙ last.1
              ∙ ap (λ (ns : List Node). ns ++ last.0) first.1
              ∙ append_assoc (entry_nodes d) first.0 last.0,
        )

    pub entries_within : length (entry_nodes d) ≤ length nodes
    entries_within =
        let b = behind in
        let long : length nodes ≡ length (entry_nodes d ++ b.0) = ap length b.1 in
        omega (arith, length-append (entry_nodes d) b.0)

    entry_at : (k : ℕ) (n : Node) → k < length (entry_nodes d) → get_or (entry_nodes d) k n ≡ n → slice_get nodes k ≡ Some n
    entry_at k n below is =
        let b = behind in
        slice_get-get_or nodes k n (omega (arith, entries_within))
        ∙ ap (λ (x : Node). Some x) (ap (λ (ns : List Node). get_or ns k n) b.1 ∙ get_or_append_left (entry_nodes d) b.0 n k below ∙ is)

    entry_is : (k : ℕ) (n : Node) → k < length (entry_nodes d) → slice_get nodes k ≡ Some n → get_or (entry_nodes d) k n ≡ n
    entry_is k n below at =
        let b = behind in
        sym (get_or_append_left (entry_nodes d) b.0 n k below) ∙ ap (λ (ns : List Node). get_or ns k n) (sym b.1) ∙ get_or_from_slice_get nodes k n n at

    pub rows_count : length rows ≡ length (entry_nodes d)
    rows_count = sym (length-map rows (nodes_in nodes)) ∙ ap length r.rows_are ∙ length-map (map (targets_of d) (entry_nodes d)) some_of ∙ length-map (entry_nodes d) (targets_of d)

    pub distinct : AllPairs (λ m n. m ≢ n) nodes
    distinct = subst (λ (ns : List Node). AllPairs (λ m n. m ≢ n) ns) (sym r.nodes_are) (firsts-distinct (entry_nodes d ++ flat_map (targets_of d) (entry_nodes d) ++ map (recipient_target d) recipients))

    -- one node has one number
    same_place : (i j : ℕ) (n : Node) → slice_get nodes i ≡ Some n → slice_get nodes j ≡ Some n → i < j → ⊥
    same_place i j n at_i at_j before = distinct i j n before (slice_get_within nodes j n at_j) (get_or_from_slice_get nodes i n n at_i ∙ sym (get_or_from_slice_get nodes j n n at_j))

    no_alias : (k : ℕ) (n : Node) → slice_get nodes k ≡ Some n → length d.aliases ≤ k → (j : ℕ) → j < length d.aliases → n ≡ Alias j → ⊥
    no_alias k n at past j below is =
        let count = length-entries (length d.aliases) (length d.includes) in
        let there : slice_get nodes j ≡ Some (Alias j) = entry_at j (Alias j) (omega (arith, count)) (entry_alias (length d.aliases) (length d.includes) j below) in
        same_place j k n (there ∙ ap (λ (x : Node). Some x) (sym is)) at (omega arith)

    no_include : (k : ℕ) (n : Node) → slice_get nodes k ≡ Some n → length (entry_nodes d) ≤ k → (j : ℕ) → j < length d.includes → n ≡ Include j → ⊥
    no_include k n at past j below is =
        let count = length-entries (length d.aliases) (length d.includes) in
        let there : slice_get nodes (length d.aliases + j) ≡ Some (Include j) = entry_at (length d.aliases + j) (Include j) (omega (arith, count)) (entry_include (length d.aliases) (length d.includes) j below) in
        same_place (length d.aliases + j) k n (there ∙ ap (λ (x : Node). Some x) (sym is)) at (omega (arith, count))

    children_lead : (k : ℕ) (n : Node) → slice_get nodes k ≡ Some n → nodes_in nodes (row_of rows k) ≡ some_of (targets_of d n)
    children_lead k n at =
        elim (cases_lt k (length (entry_nodes d))) [
          | inl below ↦
              let entry = entry_is k n below at in
              let row : row_of rows k ≡ get_or rows k [] = unwrap_or-slice_get rows k [] in
              ap (nodes_in nodes) row
              ∙ sym (get_or-map (nodes_in nodes) rows k [] [] (omega (arith, rows_count)))
              ∙ ap (λ (xs : List (List (Option Node))). get_or xs k []) r.rows_are
              ∙ get_or-map some_of (map (targets_of d) (entry_nodes d)) k [] [] (omega (arith, length-map (entry_nodes d) (targets_of d)))
              ∙ ap some_of (get_or-map (targets_of d) (entry_nodes d) k n [] below ∙ ap (targets_of d) entry)
          | inr past ↦
              let count = length-entries (length d.aliases) (length d.includes) in
              ap (nodes_in nodes) (row-past rows k (omega (arith, rows_count)))
              ∙ sym (ap some_of (no_targets n (no_alias k n at (omega (arith, count))) (no_include k n at past)))
        ]

    after_lead : (sender : Sender) (senders : List Sender) (owners : List (Option ℕ)) → AreOwned d sender (length d.aliases) senders owners
        → (s k : ℕ) (a : Sender) (n : Node) → slice_get senders s ≡ Some a → slice_get nodes k ≡ Some n
        → slice_get senders (unwrap_or (unwrap_or (slice_get owners k) None) s) ≡ Some (sender_past d a n)
    after_lead sender senders owners o s k a n at_s at_k =
        elim (cases_lt k (length d.aliases)) [
          | inl below ↦
              let count = length-entries (length d.aliases) (length d.includes) in
              let there : slice_get nodes k ≡ Some (Alias k) = entry_at k (Alias k) (omega (arith, count)) (entry_alias (length d.aliases) (length d.includes) k below) in
              let is : Alias k ≡ n = same_Some (Alias k) n (sym there ∙ at_k) in
              let number : unwrap_or (slice_get owners k) None ≡ get_or owners k None = unwrap_or-slice_get owners k None in
              ap (λ (x : Option ℕ). slice_get senders (unwrap_or x s)) number
              ∙ sets_sender senders (get_or owners k None) (owner_entry d k) s a (o.owned k below) at_s
              ∙ ap (λ (x : Node). Some (sender_past d a x)) is
          | inr past ↦
              let none : unwrap_or (slice_get owners k) None ≡ None = ap (λ (x : Option (Option ℕ)). unwrap_or x None) (slice_get_past owners k (omega (arith, o.few))) in
              ap (λ (x : Option ℕ). slice_get senders (unwrap_or x s)) none
              ∙ at_s
              ∙ ap (λ (x : Sender). Some x) (sym (keeps_sender n a (no_alias k n at_k past)))
        ]

    -- the graph of the directory and the envelope
    pub graph_is : (sender : Sender) (senders : List Sender) (owners : List (Option ℕ)) → AreOwned d sender (length d.aliases) senders owners → AllPairs (λ s t. s ≢ t) senders
        → IsGraphOf d sender recipients (record { nodes = nodes; children = rows; roots = roots; senders = senders; owners = owners })
    graph_is sender senders owners o apart = record {
      distinct = distinct;
      nodes = λ n. (subst (λ (ns : List Node). Contains ns n) r.nodes_are, subst (λ (ns : List Node). Contains ns n) (sym r.nodes_are));
      children = children_lead;
      roots = r.roots_are ∙ map_after (λ (x : Node). Some x) (recipient_target d) (λ (a : AddressParts). Some (recipient_target d a)) (λ a. refl) recipients;
      senders_distinct = apart;
      envelope_first = o.senders_are.first;
      other_senders = o.senders_are.others;
      after = after_lead sender senders owners o;
    }

  -- which refusal there is
  pub too_many_names : (recipients : List AddressParts) (names owners : ℕ) → names < length (nodes_of d recipients) → refusal_of d recipients names owners ≡ Some TooManyNames
  too_many_names recipients names owners more = cond-true (ltb names (length (nodes_of d recipients))) (Some TooManyNames) (cond (ltb owners (owner_count d)) (Some TooManyOwners) None) (lt-ltb names (length (nodes_of d recipients)) more)

  pub too_many_owners : (recipients : List AddressParts) (names owners : ℕ) → length (nodes_of d recipients) ≤ names → owners < owner_count d → refusal_of d recipients names owners ≡ Some TooManyOwners
  too_many_owners recipients names owners few more =
      cond-false (ltb names (length (nodes_of d recipients))) (Some TooManyNames) (cond (ltb owners (owner_count d)) (Some TooManyOwners) None) (le-ltb names (length (nodes_of d recipients)) few)
      ∙ cond-true (ltb owners (owner_count d)) (Some TooManyOwners) None (lt-ltb owners (owner_count d) more)

  pub not_refused : (recipients : List AddressParts) (names owners : ℕ) → length (nodes_of d recipients) ≤ names → owner_count d ≤ owners → refusal_of d recipients names owners ≡ None
  not_refused recipients names owners few fewer =
      cond-false (ltb names (length (nodes_of d recipients))) (Some TooManyNames) (cond (ltb owners (owner_count d)) (Some TooManyOwners) None) (le-ltb names (length (nodes_of d recipients)) few)
      ∙ cond-false (ltb owners (owner_count d)) (Some TooManyOwners) None (le-ltb owners (owner_count d) fewer)

module _ (d : Directory) where
  abbrev pub entries_all : List Node
  entries_all = flat_map (targets_of d) (entry_nodes d)

module _ (d : Directory) (recipients : List AddressParts) where
  abbrev pub roots_all : List Node
  roots_all = map (recipient_target d) recipients

  -- the nodes, as they come
  nodes_made : with_nodes (entry_nodes d) (entries_all d ++ roots_all) ≡ nodes_of d recipients
  nodes_made = with_nodes-append (entry_nodes d) (entries_all d) roots_all ∙ sym (firsts-from (length d.aliases) (length d.includes) (entries_all d) roots_all)

  -- there are at least the entries
  pub entries_too_many : (names : ℕ) → names < length d.aliases + length d.includes → names < length (nodes_of d recipients)
  entries_too_many names more =
      let made : length (with_nodes (entry_nodes d) (entries_all d ++ roots_all)) ≡ length (nodes_of d recipients) = ap length nodes_made in
      omega (arith, no_fewer (entry_nodes d) (entries_all d ++ roots_all), length-entries (length d.aliases) (length d.includes))

  -- a numbering that has only the entries
  pub record IsStart (names : ℕ) (s : Numbered) : Type 0 where
    pub nodes_are : s.nodes ≡ entry_nodes d
    pub limit_is : s.limit ≡ names

  -- where a step finds too many nodes, there are
  pub step_too_many : (A : Type 0) (e : TableFault) (names : ℕ) (s mid end : Numbered) (xs ys rest : List Node) → IsStart names s → mid ≡ with_all s xs → entries_all d ++ roots_all ≡ xs ++ ys ++ rest
      → Numbers {A = A} mid ys (Err e) end → e ≡ TooManyNames → names < length (nodes_of d recipients)
  step_too_many A e names s mid end xs ys rest start before is h same =
      let full : mid.limit < length (with_nodes mid.nodes ys) = subst (λ (x : TableFault). Numbers {A = A} mid ys (Err x) end) same h in
      let all = too_many s mid xs ys rest (entries_all d ++ roots_all) before is full in
      let made : length (with_nodes s.nodes (entries_all d ++ roots_all)) ≡ length (nodes_of d recipients) =
      ap length (ap (λ (ns : List Node). with_nodes ns (entries_all d ++ roots_all)) start.nodes_are ∙ nodes_made) in
      omega (arith, start.limit_is)

  pub last_nodes : (names : ℕ) (s s1 s2 : Numbered) → IsStart names s → s1 ≡ with_all s (entries_all d) → s2 ≡ with_all s1 roots_all
      → (s2.nodes ≡ nodes_of d recipients) × (s2.limit ≡ names)
  last_nodes names s s1 s2 start one two =
      let both = with_all-more s s1 s2 (entries_all d) roots_all (entries_all d ++ roots_all) one two refl in (
        ap (λ (m : Numbered). m.nodes) both ∙ ap (λ (ns : List Node). with_nodes ns (entries_all d ++ roots_all)) start.nodes_are ∙ nodes_made,
        ap (λ (m : Numbered). m.limit) both ∙ start.limit_is,
      )

  -- the rows that the steps make
  pub rows_made : (names : ℕ) (s s1 s2 : Numbered) (rows : List (List ℕ)) (roots : List ℕ) (nodes : List Node) → IsStart names s → s1 ≡ with_all s (entries_all d) → s2 ≡ with_all s1 roots_all
      → LeadTo s1.nodes rows (map (targets_of d) (entry_nodes d)) → nodes_in s2.nodes roots ≡ some_of roots_all → nodes ≡ s2.nodes → AreRows d recipients nodes rows roots
  rows_made names s s1 s2 rows roots nodes start one two lead last is =
      let now : nodes ≡ with_nodes s1.nodes roots_all = is ∙ ap (λ (m : Numbered). m.nodes) two in
      record {
        nodes_are = is ∙ (last_nodes names s s1 s2 start one two).0;
        rows_are = subst (λ (ns : List Node). LeadTo ns rows (map (targets_of d) (entry_nodes d))) (sym now) (rows_stay s1.nodes roots_all rows (map (targets_of d) (entry_nodes d)) lead);
        roots_are = ap (λ (ns : List Node). nodes_in ns roots) is ∙ last;
      }

  -- a refusal of the rows
  pub refused_by : (A : Type 0) (e : TableFault) (names owners : ℕ) → (e ≡ TooManyNames → names < length (nodes_of d recipients)) → (e ≡ TooManyOwners → ⊥) → Refuses {A = A} (Err e) (refusal_of d recipients names owners)
  refused_by A TooManyNames names owners full other = too_many_names d recipients names owners (full refl)
  refused_by A TooManyOwners names owners full other = absurd (other refl)
  refused_by A Memory names owners full other = tt
