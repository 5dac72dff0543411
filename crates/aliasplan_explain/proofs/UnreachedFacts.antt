-- Entries among the nodes of a graph, and the items that lead to a node.
use Rattle.std.proofs.Common.{◌≡◌, ◌≢◌, ◌⊎◌, ℕ, zero, suc, ◌+◌, ◌-◌, ◌<◌, ◌≤◌, min, Bool, true, false, cond, eqb, Option, Some, None, List, [], ◌∷◌, ◌++◌, length, map, get_or, set, take, drop, slice_get, refl, sym, ap, ◌∙◌, subst, inl, inr, arith}
use Rattle.std.specs.Prelude.{not, filter, flat_map, IsSome, IfSome, option_map, unwrap_or, AllPairs, Contains}
use Rattle.std.proofs.lemmas.Bool.{cases_Bool, cases_lt, cases_order, both_ways, not_from_false, eq-eqb, ne_eqb, cond-true, cond-false, false_from_ne_true, false≢true}
use Rattle.std.proofs.lemmas.List.{append-nil, append_assoc, length-set, length-map, drop_more, drop_all, get_or_default, flat_map_more, take_more, get_or-set_same, get_or-set_other, get_or-map, same_lists}
use Rattle.std.proofs.lemmas.List.Elements.{Contains-get_or, Contains-append_left, Contains-append_right}
use Rattle.std.proofs.lemmas.Option.{same_Some, slice_get-get_or, slice_get_within, slice_get_past, get_or_from_slice_get}
use Rattle.relay_text.specs.AddressParts.{AddressParts}
use Rattle.relay_text.specs.Bytes.{firsts}
use Rattle.relay_aliasfile.specs.ItemPlaces.{PlacedItem, place_value}
use Rattle.relay_aliasfile.specs.declared.places.ItemPlace.{ItemPlace}
use Rattle.relay_aliasfile.specs.declared.entry.Entry.{Entry as AliasEntry}
use Rattle.relay_tables.specs.declared.include_entry.IncludeEntry.{IncludeEntry}
use Rattle.relay_tables.specs.declared.node.Node.{Node}
use Rattle.relay_tables.specs.declared.node.Node.TheVariants.{Alias, Include}
use Rattle.relay_tables.specs.Directory.{Directory}
use Rattle.relay_tables.specs.GraphParts.{GraphParts}
use Rattle.relay_tables.specs.Targets.{targets_of, recipient_target}
use Rattle.relay_tables.specs.Senders.{Sender}
use Rattle.relay_tables.specs.Graphs.{child_numbers, entry_nodes, nodes_at, same_node, IsGraphOf}
use Rattle.relay_tables.proofs.Numbers.{length-entries, entry_alias, entry_include}
use Rattle.relay_pairs.proofs.Members.{in_head, in_tail, cons_cases}
use Rattle.relay_job.specs.declared.job.Job.{Job}
use Rattle.relay_explain.specs.declared.entry.Entry.{Entry}
use Rattle.relay_explain.specs.declared.entry.Entry.TheVariants as entries
use Rattle.relay_explain.specs.declared.listed.Listed.{Listed}
use Rattle.relay_explain.specs.declared.target.Target.TheVariants as targets
use Rattle.relay_planning.specs.Delivery.{directory_of, IsJobGraph}
use Rattle.aliasplan_explain.specs.Rows.{listed_by, listed_in, row_of}
use Rattle.aliasplan_explain.specs.Targets.{entry_at, target_at}
use Rattle.aliasplan_explain.specs.Unreached.{listed_for, listed_of, numbered_for, unreached_of}
use Rattle.aliasplan_explain.proofs.NodeFacts.{node_true, node_same}

-- ---- elements
pub get_contained : {X : Type 0} (xs : List X) (x : X) → Contains xs x → (k : ℕ) × (slice_get xs k ≡ Some x)
get_contained {X} xs x c = (c.0, slice_get-get_or xs c.0 x c.1 ∙ ap (λ (y : X). Some y) c.2)

pub contained_get : {X : Type 0} (xs : List X) (k : ℕ) (x : X) → slice_get xs k ≡ Some x → Contains xs x
contained_get xs k x at = (k, slice_get_within xs k x at, get_or_from_slice_get xs k x x at)

pub within_some : {X Y : Type 0} (f : X → Y) (xs : List X) (k : ℕ) → IsSome (option_map f (slice_get xs k)) → k < length xs
within_some {X} {Y} f xs k some =
    elim (cases_lt k (length xs)) [
      | inl below ↦ below
      | inr past ↦ absurd (false≢true (subst (λ (o : Option X). IsSome (option_map f o)) (slice_get_past xs k past) some))
    ]

-- where no two elements are the same, an element has one place
pub one_place : {X : Type 0} (xs : List X) → AllPairs (λ x y. x ≢ y) xs → (i j : ℕ) (x : X) → slice_get xs i ≡ Some x → slice_get xs j ≡ Some x → i ≡ j
one_place xs distinct i j x at_i at_j =
    let same : get_or xs i x ≡ get_or xs j x = get_or_from_slice_get xs i x x at_i ∙ sym (get_or_from_slice_get xs j x x at_j) in
    elim (cases_order i j) [
      | inl e ↦ e
      | inr ne ↦ elim ne [
        | inl before ↦ absurd (distinct i j x before (slice_get_within xs j x at_j) same)
        | inr after ↦ absurd (distinct j i x after (slice_get_within xs i x at_i) (sym same))
      ]
    ]

contains_filter : {X : Type 0} (p : X → Bool) (xs : List X) (x : X) → Contains xs x → p x ≡ true → Contains (filter p xs) x
contains_filter p [] x c passes = c
contains_filter {X} p (y ∷ ys) x c passes =
    elim (cons_cases y ys x c) [
      | inl here ↦ subst (λ (zs : List X). Contains zs x) (sym (cond-true (p y) (y ∷ filter p ys) (filter p ys) (ap p here ∙ passes))) (in_head y (filter p ys) x here)
      | inr later ↦ at (p y) (contains_filter p ys x later passes)
    ] where
      at : (b : Bool) → Contains (filter p ys) x → Contains (cond b (y ∷ filter p ys) (filter p ys)) x
      at true more = in_tail y (filter p ys) x more
      at false more = more

contains_firsts : (xs : List Node) (x : Node) → Contains xs x → Contains (firsts same_node xs) x
contains_firsts [] x c = c
contains_firsts (y ∷ ys) x c =
    let rest : List Node = filter (λ z. not (same_node y z)) (firsts same_node ys) in
    elim (cons_cases y ys x c) [
      | inl here ↦ in_head y rest x here
      | inr later ↦
          elim (cases_Bool (same_node y x)) [
            | inl same ↦ in_head y rest x (node_true y x same)
            | inr other ↦ in_tail y rest x (contains_filter (λ z. not (same_node y z)) (firsts same_node ys) x (contains_firsts ys x later) (not_from_false (same_node y x) other))
          ]
    ]

contains_flat : {X Y : Type 0} (f : X → List Y) (xs : List X) (x : X) (y : Y) → Contains xs x → Contains (f x) y → Contains (flat_map f xs) y
contains_flat f [] x y c inside = absurd (none c) where
  none : Contains [] x → ⊥
  none d = let below : d.0 < 0 = d.1 in omega arith
contains_flat {X} {Y} f (z ∷ zs) x y c inside =
    elim (cons_cases z zs x c) [
      | inl here ↦ Contains-append_left (f z) (flat_map f zs) y (subst (λ (w : X). Contains (f w) y) (sym here) inside)
      | inr later ↦ Contains-append_right (f z) (flat_map f zs) y (contains_flat f zs x y later inside)
    ]

flat_none : {X Y : Type 0} (f : X → List Y) (xs : List X) → ((x : X) → Contains xs x → f x ≡ []) → flat_map f xs ≡ []
flat_none f [] none = refl
flat_none {X} {Y} f (x ∷ xs) none =
    ap (λ (ys : List Y). ys ++ flat_map f xs) (none x (in_head x xs x refl)) ∙ flat_none f xs (λ y c. none y (in_tail x xs y c))

some_at : {X Y : Type 0} (f : X → Y) (xs : List X) (k : ℕ) → k < length xs → IsSome (option_map f (slice_get xs k))
some_at f [] k below = absurd (omega arith)
some_at f (x ∷ xs) zero below = refl
some_at f (x ∷ xs) (suc k) below = some_at f xs k (omega arith)

module _ (d : Directory) where
  alias_is : (k : ℕ) → k < length d.aliases → IsSome (entry_at d (Alias k))
  alias_is k below = some_at (λ (e : AliasEntry). entries.Alias e.name) d.aliases k below

  include_is : (k : ℕ) → k < length d.includes → IsSome (entry_at d (Include k))
  include_is k below = some_at (λ (e : IncludeEntry). entries.Include e.path) d.includes k below

  -- ---- entries by their places, aliases first
  pub entry_count : length (entry_nodes d) ≡ length d.aliases + length d.includes
  entry_count = length-entries (length d.aliases) (length d.includes)

  pub alias_there : (k : ℕ) → k < length d.aliases → slice_get (entry_nodes d) k ≡ Some (Alias k)
  alias_there k below =
      slice_get-get_or (entry_nodes d) k (Alias k) (omega (arith, entry_count)) ∙ ap (λ (n : Node). Some n) (entry_alias (length d.aliases) (length d.includes) k below)

  pub include_there : (k : ℕ) → k < length d.includes → slice_get (entry_nodes d) (length d.aliases + k) ≡ Some (Include k)
  include_there k below =
      slice_get-get_or (entry_nodes d) (length d.aliases + k) (Include k) (omega (arith, entry_count))
      ∙ ap (λ (n : Node). Some n) (entry_include (length d.aliases) (length d.includes) k below)

  -- an entry is an alias or an include file
  pub entry_is : (P : Node → Type 0) → ((k : ℕ) → k < length d.aliases → P (Alias k)) → ((k : ℕ) → k < length d.includes → P (Include k)) → (n : Node) → Contains (entry_nodes d) n → P n
  entry_is P alias include n c =
      let at = get_contained (entry_nodes d) n c in
      elim (cases_lt at.0 (length d.aliases)) [
        | inl below ↦ subst P (same_Some (Alias at.0) n (sym (alias_there at.0 below) ∙ at.1)) (alias at.0 below)
        | inr past ↦
            let inside : at.0 < length (entry_nodes d) = slice_get_within (entry_nodes d) at.0 n at.1 in
            let k : ℕ = at.0 - length d.aliases in
            let sum : length d.aliases + k ≡ at.0 = omega arith in
            let below : k < length d.includes = omega (arith, entry_count) in
            subst P (same_Some (Include k) n (sym (include_there k below) ∙ ap (slice_get (entry_nodes d)) sum ∙ at.1)) (include k below)
      ]

  place_in : Node → ℕ
  place_in (Alias k) = k
  place_in (Include k) = length d.aliases + k
  place_in n = 0

  place_is : (p : ℕ) (n : Node) → slice_get (entry_nodes d) p ≡ Some n → place_in n ≡ p
  unfolding place_in
  place_is p n at =
      elim (cases_lt p (length d.aliases)) [
        | inl below ↦ ap place_in (same_Some n (Alias p) (sym at ∙ alias_there p below))
        | inr past ↦
            let inside : p < length (entry_nodes d) = slice_get_within (entry_nodes d) p n at in
            let k : ℕ = p - length d.aliases in
            let sum : length d.aliases + k ≡ p = omega arith in
            let below : k < length d.includes = omega (arith, entry_count) in
            ap place_in (same_Some n (Include k) (sym at ∙ ap (slice_get (entry_nodes d)) (sym sum) ∙ include_there k below)) ∙ sum
      ]

  pub one_entry : (p q : ℕ) (n : Node) → slice_get (entry_nodes d) p ≡ Some n → slice_get (entry_nodes d) q ≡ Some n → p ≡ q
  one_entry p q n at_p at_q = sym (place_is p n at_p) ∙ place_is q n at_q

  pub place_of_alias : (n : Node) (k : ℕ) → n ≡ Alias k → IsSome (target_at d n) → slice_get (entry_nodes d) k ≡ Some n
  place_of_alias n k is some =
      let below : k < length d.aliases = within_some (λ (e : AliasEntry). targets.Alias e.name) d.aliases k (subst (λ (m : Node). IsSome (target_at d m)) is some) in
      alias_there k below ∙ ap (λ (m : Node). Some m) (sym is)

  pub place_of_include : (n : Node) (k : ℕ) → n ≡ Include k → IsSome (target_at d n) → slice_get (entry_nodes d) (length d.aliases + k) ≡ Some n
  place_of_include n k is some =
      let below : k < length d.includes = within_some (λ (e : IncludeEntry). targets.Include e.path) d.includes k (subst (λ (m : Node). IsSome (target_at d m)) is some) in
      include_there k below ∙ ap (λ (m : Node). Some m) (sym is)

  pub no_place : (n : Node) → ((k : ℕ) → n ≡ Alias k → ⊥) → ((k : ℕ) → n ≡ Include k → ⊥) → Contains (entry_nodes d) n → ⊥
  no_place n alias include c = entry_is (λ m. n ≡ m → ⊥) (λ k below. alias k) (λ k below. include k) n c refl

  -- ---- the numbers of entries
  -- each entry among the first nodes has its number
  pub record AreSet (nodes : List Node) (count : ℕ) (numbers : List ℕ) : Type 0 where
    pub size : length numbers ≡ length (entry_nodes d)
    pub set_at : (k p : ℕ) (n : Node) → k < count → slice_get nodes k ≡ Some n → slice_get (entry_nodes d) p ≡ Some n → get_or numbers p 0 ≡ k

  pub none_set : (nodes : List Node) (numbers : List ℕ) → length numbers ≡ length d.aliases + length d.includes → AreSet nodes 0 numbers
  none_set nodes numbers size = record { size = size ∙ sym entry_count; set_at = λ k p n below at entry. absurd (omega arith) }

  last_or_before : (k count : ℕ) → k < count + 1 → (k < count) ⊎ (k ≡ count)
  last_or_before k count below = elim (cases_lt k count) [ inl before ↦ inl before | inr past ↦ inr (omega arith) ]

  pub one_passed : (nodes : List Node) (count : ℕ) (numbers : List ℕ) (n : Node) → slice_get nodes count ≡ Some n → (Contains (entry_nodes d) n → ⊥) → AreSet nodes count numbers → AreSet nodes (count + 1) numbers
  one_passed nodes count numbers n here other are = record {
    size = are.size;
    set_at = λ k p m below at entry.
        elim (last_or_before k count below) [
          | inl before ↦ are.set_at k p m before at entry
          | inr last ↦
              let same : m ≡ n = same_Some m n (sym at ∙ ap (slice_get nodes) last ∙ here) in
              absurd (other (subst (λ (x : Node). Contains (entry_nodes d) x) same (contained_get (entry_nodes d) p m entry)))
        ];
  }

  pub one_set : (nodes : List Node) (count : ℕ) (numbers : List ℕ) (n : Node) (place : ℕ) → AllPairs (λ x y. x ≢ y) nodes → slice_get nodes count ≡ Some n → slice_get (entry_nodes d) place ≡ Some n → AreSet nodes count numbers
      → AreSet nodes (count + 1) (set numbers place count)
  one_set nodes count numbers n place distinct here there are = record {
    size = length-set numbers place count ∙ are.size;
    set_at = λ k p m below at entry.
        elim (last_or_before k count below) [
          | inl before ↦
              let apart : p ≢ place = λ e.
              let same : m ≡ n = same_Some m n (sym entry ∙ ap (slice_get (entry_nodes d)) e ∙ there) in
              let again : slice_get nodes k ≡ Some n = at ∙ ap (λ (x : Node). Some x) same in
              let twice : k ≡ count = one_place nodes distinct k count n again here in
              omega arith in
              get_or-set_other numbers place p count 0 apart ∙ are.set_at k p m before at entry
          | inr last ↦
              let same : m ≡ n = same_Some m n (sym at ∙ ap (slice_get nodes) last ∙ here) in
              let e : p ≡ place = one_entry p place n (entry ∙ ap (λ (x : Node). Some x) same) there in
              let inside : place < length (entry_nodes d) = slice_get_within (entry_nodes d) place n there in
              ap (λ (i : ℕ). get_or (set numbers place count) i 0) e ∙ get_or-set_same numbers place count 0 (omega (arith, are.size)) ∙ sym last
        ];
  }

  module _ (sender : Sender) (recipients : List AddressParts) (g : GraphParts) (graph : IsGraphOf d sender recipients g) where
    pub entry_numbered : (n : Node) → Contains (entry_nodes d) n → Contains g.nodes n
    entry_numbered n c =
        let targets : List Node = flat_map (targets_of d) (entry_nodes d) in
        let roots : List Node = map (recipient_target d) recipients in
        (graph.nodes n).1 (contains_firsts (entry_nodes d ++ targets ++ roots) n (Contains-append_left (entry_nodes d ++ targets) roots n (Contains-append_left (entry_nodes d) targets n c)))

    pub target_numbered : (from n : Node) → Contains (entry_nodes d) from → Contains (targets_of d from) n → Contains g.nodes n
    target_numbered from n c t =
        let targets : List Node = flat_map (targets_of d) (entry_nodes d) in
        let roots : List Node = map (recipient_target d) recipients in
        (graph.nodes n).1 (contains_firsts (entry_nodes d ++ targets ++ roots) n (Contains-append_left (entry_nodes d ++ targets) roots n (Contains-append_right (entry_nodes d) targets n (contains_flat (targets_of d) (entry_nodes d) from n c t))))

    pub all_set : (numbers : List ℕ) → AreSet g.nodes (length g.nodes) numbers → nodes_at g numbers ≡ map (λ n. Some n) (entry_nodes d)
    all_set numbers are =
        let size : length (map (slice_get g.nodes) numbers) ≡ length (map (λ (n : Node). Some n) (entry_nodes d)) =
        length-map numbers (slice_get g.nodes) ∙ are.size ∙ sym (length-map (entry_nodes d) (λ (n : Node). Some n)) in
        same_lists (nodes_at g numbers) (map (λ (n : Node). Some n) (entry_nodes d)) size (λ p o below.
        let inside : p < length numbers = omega (arith, length-map numbers (slice_get g.nodes)) in
        let within : p < length (entry_nodes d) = omega (arith, are.size) in
        let n : Node = get_or (entry_nodes d) p (Alias 0) in
        let entry : slice_get (entry_nodes d) p ≡ Some n = slice_get-get_or (entry_nodes d) p (Alias 0) within in
        let at = get_contained g.nodes n (entry_numbered n (contained_get (entry_nodes d) p n entry)) in
        let number : get_or numbers p 0 ≡ at.0 = are.set_at at.0 p n (slice_get_within g.nodes at.0 n at.1) at.1 entry in
        get_or-map (slice_get g.nodes) numbers p 0 o inside
        ∙ ap (slice_get g.nodes) number
        ∙ at.1
        ∙ sym (get_or-map (λ (m : Node). Some m) (entry_nodes d) p (Alias 0) o within))

-- ---- the items that lead to a node
module _ (nodes : List Node) (distinct : AllPairs (λ x y. x ≢ y) nodes) (target : ℕ) (node : Node) (at : slice_get nodes target ≡ Some node) where
  same_test : (c : ℕ) (n : Node) → slice_get nodes c ≡ Some n → eqb c target ≡ same_node n node
  same_test c n here =
      elim (cases_Bool (same_node n node)) [
        | inl same ↦
            let e : c ≡ target = one_place nodes distinct c target node (here ∙ ap (λ (x : Node). Some x) (node_true n node same)) at in
            eq-eqb c target e ∙ sym same
        | inr other ↦
            ne_eqb c target (λ e.
            let same : n ≡ node = same_Some n node (sym here ∙ ap (slice_get nodes) e ∙ at) in
            both_ways (same_node n node) other (node_same n node same))
            ∙ sym other
      ]

  -- the items whose targets' numbers are the node's are those whose targets are the node
  pub by_numbers : (cs : List ℕ) (ns : List Node) (items : List Listed) → map (slice_get nodes) cs ≡ map (λ n. Some n) ns → numbered_for target cs items ≡ listed_for node ns items
  by_numbers [] [] items are = refl
  by_numbers [] (n ∷ ns) items are = cc
  by_numbers (c ∷ cs) [] items are = cc
  by_numbers (c ∷ cs) (n ∷ ns) [] are = refl
  by_numbers (c ∷ cs) (n ∷ ns) (item ∷ items) are =
      let here : slice_get nodes c ≡ Some n = cc in
      let rest : map (slice_get nodes) cs ≡ map (λ (m : Node). Some m) ns = cc in
      let more = by_numbers cs ns items rest in
      ap (λ (b : Bool). cond b (item ∷ numbered_for target cs items) (numbered_for target cs items)) (same_test c n here)
      ∙ ap (λ (ls : List Listed). cond (same_node n node) (item ∷ ls) ls) more

-- ---- items one by one
pub numbered_more : (target : ℕ) (cs : List ℕ) (items : List Listed) (i : ℕ) (l : Listed) → i < length cs → i < length items
    → numbered_for target (drop i cs) (drop i items)
    ≡ cond (eqb (get_or cs i 0) target) (get_or items i l ∷ numbered_for target (drop (i + 1) cs) (drop (i + 1) items)) (numbered_for target (drop (i + 1) cs) (drop (i + 1) items))
numbered_more target cs items i l inside within =
    ap (λ (xs : List ℕ). numbered_for target xs (drop i items)) (drop_more cs i 0 inside)
    ∙ ap (λ (xs : List Listed). numbered_for target (get_or cs i 0 ∷ drop (i + 1) cs) xs) (drop_more items i l within)

numbered_none : (target : ℕ) (cs : List ℕ) → numbered_for target cs [] ≡ []
numbered_none target [] = refl
numbered_none target (c ∷ cs) = refl

pub numbered_end : (target : ℕ) (cs : List ℕ) (items : List Listed) (i : ℕ) → (length cs ≤ i) ⊎ (length items ≤ i) → numbered_for target (drop i cs) (drop i items) ≡ []
numbered_end target cs items i past =
    elim past [
      | inl first ↦ ap (λ (xs : List ℕ). numbered_for target xs (drop i items)) (drop_all i cs first)
      | inr second ↦ ap (λ (xs : List Listed). numbered_for target (drop i cs) xs) (drop_all i items second) ∙ numbered_none target (drop i cs)
    ]

-- the items of a row, whose numbers stand beside them
module _ (target : ℕ) (cs : List ℕ) (row : List ItemPlace) (entry : Entry) (old new all : List Listed) (i : ℕ) where
  abbrev row_items : List Listed
  row_items = map (listed_in entry) (map place_value row)

  abbrev rest : ℕ → List Listed
  rest k = numbered_for target (drop k cs) (drop k row_items)

  module _ (j child : ℕ) (place : ItemPlace) (next : j ≡ i + 1) (inside : i < length cs) (within : i < length row) (child_is : child ≡ get_or cs i 0) (was : old ++ rest i ≡ all) where
    long : length row_items ≡ length row
    long = length-map (map place_value row) (listed_in entry) ∙ length-map row place_value

    here : Listed
    here = listed_in entry (place_value place)

    more : rest i ≡ cond (eqb (get_or cs i 0) target) (get_or row_items i here ∷ rest (i + 1)) (rest (i + 1))
    more = numbered_more target cs row_items i here inside (omega (arith, long))

    pub item_added : place ≡ get_or row i place → child ≡ target → new ≡ old ++ listed_in entry (place_value place) ∷ [] → new ++ rest j ≡ all
    unfolding here
    item_added place_is same now =
        let first : get_or row_items i here ≡ here =
        get_or-map (listed_in entry) (map place_value row) i (place_value place) here (omega (arith, length-map row place_value))
        ∙ ap (listed_in entry) (get_or-map place_value row i place (place_value place) within)
        ∙ ap (λ (p : ItemPlace). listed_in entry (place_value p)) (sym place_is) in
        let step : rest i ≡ here ∷ rest (i + 1) =
        more ∙ cond-true (eqb (get_or cs i 0) target) (get_or row_items i here ∷ rest (i + 1)) (rest (i + 1)) (eq-eqb (get_or cs i 0) target (sym child_is ∙ same))
        ∙ ap (λ (l : Listed). l ∷ rest (i + 1)) first in
        ap (λ k. new ++ rest k) next ∙ ap (λ (ls : List Listed). ls ++ rest (i + 1)) now ∙ append_assoc old (here ∷ []) (rest (i + 1)) ∙ ap (λ (ls : List Listed). old ++ ls) (sym step) ∙ was

    pub item_passed : (child ≡ target → ⊥) → new ≡ old → new ++ rest j ≡ all
    item_passed other now =
        let step : rest i ≡ rest (i + 1) =
        more ∙ cond-false (eqb (get_or cs i 0) target) (get_or row_items i here ∷ rest (i + 1)) (rest (i + 1)) (ne_eqb (get_or cs i 0) target (λ e. other (child_is ∙ e))) in
        ap (λ k. new ++ rest k) next ∙ ap (λ (ls : List Listed). ls ++ rest (i + 1)) now ∙ ap (λ (ls : List Listed). old ++ ls) (sym step) ∙ was

  pub items_end : i ≡ min (length cs) (length row) → old ++ rest i ≡ all → old ≡ all
  items_end all_over was =
      let long : length row_items ≡ length row = length-map (map place_value row) (listed_in entry) ∙ length-map row place_value in
      let past : (length cs ≤ i) ⊎ (length row_items ≤ i) = elim (cases_lt (length cs) (length row)) [ inl fewer ↦ inl (omega arith) | inr more ↦ inr (omega (arith, long)) ] in
      sym (append-nil old) ∙ ap (λ (ls : List Listed). old ++ ls) (sym (numbered_end target cs row_items i past)) ∙ was

-- where no target has the number, no item leads there
pub none_numbered : (target : ℕ) (cs : List ℕ) (items : List Listed) → (Contains cs target → ⊥) → numbered_for target cs items ≡ []
none_numbered target [] items none = refl
none_numbered target (c ∷ cs) [] none = refl
none_numbered target (c ∷ cs) (item ∷ items) none =
    cond-false (eqb c target) (item ∷ numbered_for target cs items) (numbered_for target cs items) (ne_eqb c target (λ e. none (in_head c cs target e)))
    ∙ none_numbered target cs items (λ later. none (in_tail c cs target later))

none_listed : (node : Node) (ns : List Node) (items : List Listed) → (Contains ns node → ⊥) → listed_for node ns items ≡ []
none_listed node [] items none = refl
none_listed node (n ∷ ns) [] none = refl
none_listed node (n ∷ ns) (item ∷ items) none =
    cond-false (same_node n node) (item ∷ listed_for node ns items) (listed_for node ns items) (false_from_ne_true (same_node n node) (λ e. none (in_head n ns node (node_true n node e))))
    ∙ none_listed node ns items (λ later. none (in_tail n ns node later))

-- ---- the items of a job that lead to a node
some_value : {X : Type 0} (o : Option X) → IsSome o → (x : X) × (o ≡ Some x)
some_value None some = absurd (false≢true some)
some_value (Some x) some = (x, refl)

module _ (job : Job) where
  -- what stands at a number is an entry
  pub entry_there : (nodes : List Node) (from : ℕ) (n : Node) → IfSome (slice_get nodes from) (λ m. IsSome (entry_at (directory_of job) m)) → slice_get nodes from ≡ Some n → (entry : Entry) × (entry_at (directory_of job) n ≡ Some entry)
  entry_there nodes from n some at =
      let P : Node → Type 0 = λ m. IsSome (entry_at (directory_of job) m) in
      some_value (entry_at (directory_of job) n) (subst (λ (o : Option Node). IfSome o P) at some)

  pub listed_by_row : (n : Node) (entry : Entry) (row : List PlacedItem) → entry_at (directory_of job) n ≡ Some entry → row ≡ row_of job n → map (listed_in entry) row ≡ listed_by job n
  listed_by_row n entry row is are =
      ap (map (listed_in entry)) are ∙ sym (ap (λ (o : Option Entry). unwrap_or (option_map (λ (e : Entry). map (listed_in e) (row_of job n)) o) []) is)

  module _ (g : GraphParts) (graph : IsJobGraph job g) where
    module _ (from target : ℕ) (at node : Node) (at_from : slice_get g.nodes from ≡ Some at) (at_target : slice_get g.nodes target ≡ Some node) where
      pub listed_numbered : (items : List Listed) → items ≡ listed_by job at → numbered_for target (child_numbers g from) items ≡ listed_of job node at
      listed_numbered items are =
          by_numbers g.nodes graph.distinct target node at_target (child_numbers g from) (targets_of (directory_of job) at) items (graph.children from at at_from)
          ∙ ap (listed_for node (targets_of (directory_of job) at)) are

      pub not_listed : (Contains (child_numbers g from) target → ⊥) → listed_of job node at ≡ []
      not_listed none = sym (listed_numbered (listed_by job at) refl) ∙ none_numbered target (child_numbers g from) (listed_by job at) none

    -- no entry leads to a node that the graph doesn't have
    pub unreached_none : (node : Node) → (Contains g.nodes node → ⊥) → unreached_of job node ≡ []
    unreached_none node none =
        let d = directory_of job in
        flat_none (listed_of job node) (entry_nodes d) (λ from c. none_listed node (targets_of d from) (listed_by job from) (λ t. none (target_numbered d job.sender job.recipients g graph from node c t)))

  -- an entry by its place among the numbers
  pub record IsEntryAt (nodes : List Node) (numbers : List ℕ) (i : ℕ) : Type 0 where
    pub node : Node
    pub inside : i < length (entry_nodes (directory_of job))
    pub is : get_or (entry_nodes (directory_of job)) i node ≡ node
    pub at : slice_get nodes (get_or numbers i 0) ≡ Some node
    pub entry : IsSome (entry_at (directory_of job) node)

  pub entry_of_number : (g : GraphParts) (numbers : List ℕ) (i : ℕ) → nodes_at g numbers ≡ map (λ n. Some n) (entry_nodes (directory_of job)) → i < length numbers → IsEntryAt g.nodes numbers i
  entry_of_number g numbers i are inside =
      let d = directory_of job in
      let size : length numbers ≡ length (entry_nodes d) = sym (length-map numbers (slice_get g.nodes)) ∙ ap length are ∙ length-map (entry_nodes d) (λ (n : Node). Some n) in
      let within : i < length (entry_nodes d) = omega arith in
      let n : Node = get_or (entry_nodes d) i (Alias 0) in
      record {
        node = n;
        inside = within;
        is = get_or_default (entry_nodes d) i n (Alias 0) within;
        at =
            sym (get_or-map (slice_get g.nodes) numbers i 0 None inside)
            ∙ ap (λ (os : List (Option Node)). get_or os i None) are
            ∙ get_or-map (λ (m : Node). Some m) (entry_nodes d) i (Alias 0) None within;
        entry = entry_is d (λ m. IsSome (entry_at d m)) (alias_is d) (include_is d) n (Contains-get_or (entry_nodes d) i (Alias 0) within);
      }

  -- one entry more
  pub listed_more : (node : Node) (nodes : List Node) (numbers : List ℕ) (i : ℕ) (e : IsEntryAt nodes numbers i) (before after : List Listed)
      → before ≡ flat_map (listed_of job node) (take i (entry_nodes (directory_of job))) → after ≡ before ++ listed_of job node e.node → after ≡ flat_map (listed_of job node) (take (i + 1) (entry_nodes (directory_of job)))
  listed_more node nodes numbers i e before after was now =
      let d = directory_of job in
      let f = listed_of job node in
      now
      ∙ ap (λ (ls : List Listed). ls ++ f e.node) was
      ∙ flat_map_more f [] (take i (entry_nodes d)) e.node
      ∙ ap (λ (n : Node). flat_map f (take i (entry_nodes d) ++ n ∷ [])) (sym e.is)
      ∙ ap (flat_map f) (sym (take_more (entry_nodes d) i e.node e.inside))
