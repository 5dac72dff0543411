-- Lemmas on nodes that are kept by their first places.
use Rattle.std.proofs.Common.{◌≡◌, ◌≢◌, ℕ, zero, suc, ◌+◌, ◌<◌, ◌≤◌, Bool, true, false, ◌||◌, ◌&&◌, cond, eqb, inl, inr, Some, List, [], ◌∷◌, ◌++◌, length, map, slice_get, refl, sym, ap, ◌∙◌, arith}
use Rattle.std.specs.Prelude.{not, filter, AllPairs}
use Rattle.std.specs.List.{All, list_any, range_with_len}
use Rattle.std.proofs.lemmas.Bool.{cases_Bool, true≢false, both_ways, not_from_false, ne_eqb, cond-true, cond-false, not-true}
use Rattle.std.proofs.lemmas.List.{append_assoc, append-nil, length-append, get_or_append_left}
use Rattle.std.proofs.lemmas.List.Elements.{All-nil, All-cons, All-head, All-tail, All-append, All-weaker, filter_passes}
use Rattle.std.proofs.lemmas.List.Folds.{list_any-append}
use Rattle.std.proofs.lemmas.List.Kept.{AllPairs-cons, AllPairs-filter}
use Rattle.std.proofs.lemmas.Option.{slice_get_within, slice_get-get_or, get_or_from_slice_get}
use Rattle.relay_text.specs.Bytes.{firsts}
use Rattle.relay_tables.specs.declared.node.Node.{Node}
use Rattle.relay_tables.specs.declared.node.Node.TheVariants.{Alias, Include}
use Rattle.relay_tables.specs.Graphs.{same_node}
use Rattle.relay_tables.specs.Numbering.{with_node, with_nodes, entries_of}
use Rattle.relay_tables.proofs.NodeKeys.{node_true, node_same}

pub with_node-there : (nodes : List Node) (n : Node) → list_any (same_node n) nodes ≡ true → with_node nodes n ≡ nodes
unfolding with_node
with_node-there nodes n e = cond-true (list_any (same_node n) nodes) nodes (nodes ++ n ∷ []) e

pub with_node-new : (nodes : List Node) (n : Node) → list_any (same_node n) nodes ≡ false → with_node nodes n ≡ nodes ++ n ∷ []
unfolding with_node
with_node-new nodes n e = cond-false (list_any (same_node n) nodes) nodes (nodes ++ n ∷ []) e

pub with_nodes-none : (nodes : List Node) → with_nodes nodes [] ≡ nodes
unfolding with_nodes
with_nodes-none nodes = refl

pub with_nodes-one : (nodes : List Node) (n : Node) → with_nodes nodes (n ∷ []) ≡ with_node nodes n
unfolding with_nodes
with_nodes-one nodes n = refl

pub with_nodes-append : (nodes xs ys : List Node) → with_nodes nodes (xs ++ ys) ≡ with_nodes (with_nodes nodes xs) ys
unfolding with_nodes
with_nodes-append nodes [] ys = refl
with_nodes-append nodes (x ∷ xs) ys = with_nodes-append (with_node nodes x) xs ys

one_grows : (nodes : List Node) (n : Node) → (more : List Node) × (with_node nodes n ≡ nodes ++ more)
one_grows nodes n =
    elim (cases_Bool (list_any (same_node n) nodes)) [
      | inl there ↦ ([], with_node-there nodes n there ∙ sym (append-nil nodes))
      | inr new ↦ (n ∷ [], with_node-new nodes n new)
    ]

-- nodes stay where they are
pub grows : (nodes xs : List Node) → (more : List Node) × (with_nodes nodes xs ≡ nodes ++ more)
unfolding with_nodes
grows nodes [] = ([], sym (append-nil nodes))
grows nodes (x ∷ xs) =
    let first = one_grows nodes x in
    let rest = grows (with_node nodes x) xs in
    (first.0 ++ rest.0, rest.1 ∙ ap (λ (ns : List Node). ns ++ rest.0) first.1 ∙ append_assoc nodes first.0 rest.0)

pub no_fewer : (nodes xs : List Node) → length nodes ≤ length (with_nodes nodes xs)
no_fewer nodes xs =
    let g = grows nodes xs in
    let long : length (with_nodes nodes xs) ≡ length (nodes ++ g.0) = ap length g.1 in
    omega (arith, long, length-append nodes g.0)

pub get-append : {X : Type 0} (xs ys : List X) (k : ℕ) (x : X) → slice_get xs k ≡ Some x → slice_get (xs ++ ys) k ≡ Some x
get-append {X} xs ys k x e =
    let below = slice_get_within xs k x e in
    slice_get-get_or (xs ++ ys) k x (omega (arith, length-append xs ys))
    ∙ ap (λ (y : X). Some y) (get_or_append_left xs ys x k below ∙ get_or_from_slice_get xs k x x e)

pub stays : (nodes xs : List Node) (k : ℕ) (n : Node) → slice_get nodes k ≡ Some n → slice_get (with_nodes nodes xs) k ≡ Some n
stays nodes xs k n e =
    let g = grows nodes xs in
    ap (λ (ns : List Node). slice_get ns k) g.1 ∙ get-append nodes g.0 k n e

-- Nodes that come one by one are those that were there, and then the first of each other.
both_tests : {X : Type 0} (p q r : X → Bool) → ((x : X) → r x ≡ (q x && p x)) → (xs : List X) → filter p (filter q xs) ≡ filter r xs
both_tests p q r h [] = refl
both_tests {X} p q r h (x ∷ xs) = at (q x) (h x) (both_tests p q r h xs) where
  at : (b : Bool) → r x ≡ (b && p x) → filter p (filter q xs) ≡ filter r xs → filter p (cond b (x ∷ filter q xs) (filter q xs)) ≡ cond (r x) (x ∷ filter r xs) (filter r xs)
  at true e rest = ap (λ t. cond t (x ∷ filter p (filter q xs)) (filter p (filter q xs))) (sym e) ∙ ap (λ t. cond (r x) (x ∷ t) t) rest
  at false e rest = rest ∙ ap (λ t. cond t (x ∷ filter r xs) (filter r xs)) (sym e)

swap : (m n : Node) → same_node m n ≡ same_node n m
swap m n = at (same_node m n) refl (same_node n m) refl where
  at : (a : Bool) → same_node m n ≡ a → (b : Bool) → same_node n m ≡ b → a ≡ b
  at true e true f = refl
  at false e false f = refl
  at true e false f = absurd (true≢false (sym (node_same n m (sym (node_true m n e))) ∙ f))
  at false e true f = absurd (true≢false (sym (node_same m n (sym (node_true n m f))) ∙ e))

not_or : (a b c : Bool) → b ≡ c → not (a || (c || false)) ≡ (not b && not a)
not_or true true c e = refl
not_or true false c e = refl
not_or false true true e = refl
not_or false false false e = refl
not_or false true false e = absurd (true≢false e)
not_or false false true e = absurd (true≢false (sym e))

not_among : (ns : List Node) (x y : Node) → not (list_any (same_node y) (ns ++ x ∷ [])) ≡ (not (same_node x y) && not (list_any (same_node y) ns))
not_among ns x y = ap (λ t. not t) (list_any-append (same_node y) ns (x ∷ [])) ∙ not_or (list_any (same_node y) ns) (same_node x y) (same_node y x) (swap x y)

not_again : (ns : List Node) (x y : Node) → list_any (same_node x) ns ≡ true → not (list_any (same_node y) ns) ≡ (not (same_node x y) && not (list_any (same_node y) ns))
not_again ns x y e = at (same_node x y) refl (list_any (same_node y) ns) refl where
  at : (a : Bool) → same_node x y ≡ a → (b : Bool) → list_any (same_node y) ns ≡ b → not b ≡ (not a && not b)
  at false f b g = refl
  at true f true g = refl
  at true f false g = absurd (true≢false (sym e ∙ ap (λ (z : Node). list_any (same_node z) ns) (node_true x y f) ∙ g))

with_nodes-is : (ns xs : List Node) → with_nodes ns xs ≡ ns ++ filter (λ y. not (list_any (same_node y) ns)) (firsts same_node xs)
unfolding with_nodes with_node
with_nodes-is ns [] = sym (append-nil ns)
with_nodes-is ns (x ∷ xs) = at (list_any (same_node x) ns) refl (with_nodes-is ns xs) (with_nodes-is (ns ++ x ∷ []) xs) where
  at : (b : Bool) → list_any (same_node x) ns ≡ b
      → with_nodes ns xs ≡ ns ++ filter (λ y. not (list_any (same_node y) ns)) (firsts same_node xs)
      → with_nodes (ns ++ x ∷ []) xs ≡ (ns ++ x ∷ []) ++ filter (λ y. not (list_any (same_node y) (ns ++ x ∷ []))) (firsts same_node xs)
      → with_nodes (cond b ns (ns ++ x ∷ [])) xs ≡ ns ++ cond (not b) (x ∷ filter (λ y. not (list_any (same_node y) ns)) (filter (λ y. not (same_node x y)) (firsts same_node xs))) (filter (λ y. not (list_any (same_node y) ns)) (filter (λ y. not (same_node x y)) (firsts same_node xs)))
  at true e was more = was ∙ ap (λ t. ns ++ t) (sym (both_tests (λ y. not (list_any (same_node y) ns)) (λ y. not (same_node x y)) (λ y. not (list_any (same_node y) ns)) (λ y. not_again ns x y e) (firsts same_node xs)))
  at false e was more = more ∙ append_assoc ns (x ∷ []) _ ∙ ap (λ t. ns ++ x ∷ t) (sym (both_tests (λ y. not (list_any (same_node y) ns)) (λ y. not (same_node x y)) (λ y. not (list_any (same_node y) (ns ++ x ∷ []))) (λ y. not_among ns x y) (firsts same_node xs)))

filter_all : {X : Type 0} (p : X → Bool) (xs : List X) → All (λ x. p x ≡ true) xs → filter p xs ≡ xs
filter_all p [] all = refl
filter_all {X} p (x ∷ xs) all =
    let first = All-head (λ y. p y ≡ true) x xs all in
    cond-true (p x) (x ∷ filter p xs) (filter p xs) first ∙ ap (λ (ys : List X). x ∷ ys) (filter_all p xs (All-tail (λ y. p y ≡ true) x xs all))

-- the first of each node
pub firsts-is : (xs : List Node) → with_nodes [] xs ≡ firsts same_node xs
firsts-is xs = with_nodes-is [] xs ∙ filter_all (λ y. true) (firsts same_node xs) (trues (firsts same_node xs)) where
  trues : (ys : List Node) → All (λ y. true ≡ true) ys
  trues [] = All-nil (λ y. true ≡ true)
  trues (y ∷ ys) = All-cons (λ z. true ≡ true) y ys refl (trues ys)

pub firsts-distinct : (xs : List Node) → AllPairs (λ m n. m ≢ n) (firsts same_node xs)
firsts-distinct [] = λ i j d before below. absurd (omega arith)
firsts-distinct (x ∷ xs) =
    let rest = firsts-distinct xs in
    let others : All (λ y. x ≢ y) (filter (λ y. not (same_node x y)) (firsts same_node xs)) =
    All-weaker (λ y. not (same_node x y) ≡ true) (λ y. x ≢ y) (λ y t e. both_ways (same_node x y) (not-true (same_node x y) t) (node_same x y e)) (filter (λ y. not (same_node x y)) (firsts same_node xs))
    (filter_passes (λ y. not (same_node x y)) (firsts same_node xs)) in
    AllPairs-cons (λ m n. m ≢ n) x (filter (λ y. not (same_node x y)) (firsts same_node xs)) others (AllPairs-filter (λ m n. m ≢ n) (λ y. not (same_node x y)) (firsts same_node xs) rest)

-- The aliases and include files are each once.
other_aliases : (a b n : ℕ) → a < b → All (λ y. not (same_node (Alias a) y) ≡ true) (map Alias (range_with_len b n))
other_aliases a b zero before = All-nil (λ y. not (same_node (Alias a) y) ≡ true)
other_aliases a b (suc n) before =
    All-cons (λ y. not (same_node (Alias a) y) ≡ true) (Alias b) (map Alias (range_with_len (b + 1) n)) (not_from_false (eqb a b) (ne_eqb a b (λ e. omega arith))) (other_aliases a (b + 1) n (omega arith))

other_includes : (a b n : ℕ) → a < b → All (λ y. not (same_node (Include a) y) ≡ true) (map Include (range_with_len b n))
other_includes a b zero before = All-nil (λ y. not (same_node (Include a) y) ≡ true)
other_includes a b (suc n) before =
    All-cons (λ y. not (same_node (Include a) y) ≡ true) (Include b) (map Include (range_with_len (b + 1) n)) (not_from_false (eqb a b) (ne_eqb a b (λ e. omega arith))) (other_includes a (b + 1) n (omega arith))

no_aliases : (a b n : ℕ) → All (λ y. not (same_node (Alias a) y) ≡ true) (map Include (range_with_len b n))
no_aliases a b zero = All-nil (λ y. not (same_node (Alias a) y) ≡ true)
no_aliases a b (suc n) = All-cons (λ y. not (same_node (Alias a) y) ≡ true) (Include b) (map Include (range_with_len (b + 1) n)) refl (no_aliases a (b + 1) n)

first_includes : (b n : ℕ) → firsts same_node (map Include (range_with_len b n)) ≡ map Include (range_with_len b n)
first_includes b zero = refl
first_includes b (suc n) =
    let others = map Include (range_with_len (b + 1) n) in
    ap (λ (xs : List Node). Include b ∷ filter (λ y. not (same_node (Include b) y)) xs) (first_includes (b + 1) n)
    ∙ ap (λ (xs : List Node). Include b ∷ xs) (filter_all (λ y. not (same_node (Include b) y)) others (other_includes b (b + 1) n (omega arith)))

first_entries : (a n b m : ℕ) → firsts same_node (map Alias (range_with_len a n) ++ map Include (range_with_len b m)) ≡ map Alias (range_with_len a n) ++ map Include (range_with_len b m)
first_entries a zero b m = first_includes b m
first_entries a (suc n) b m =
    let aliases = map Alias (range_with_len (a + 1) n) in
    let includes = map Include (range_with_len b m) in
    ap (λ (xs : List Node). Alias a ∷ filter (λ y. not (same_node (Alias a) y)) xs) (first_entries (a + 1) n b m)
    ∙ ap (λ (xs : List Node). Alias a ∷ xs) (filter_all (λ y. not (same_node (Alias a) y)) (aliases ++ includes)
    (All-append (λ y. not (same_node (Alias a) y) ≡ true) aliases includes (other_aliases a (a + 1) n (omega arith)) (no_aliases a b m)))

-- what comes behind the entries
pub firsts-from : (aliases includes : ℕ) (xs ys : List Node) → firsts same_node (entries_of aliases includes ++ xs ++ ys) ≡ with_nodes (with_nodes (entries_of aliases includes) xs) ys
firsts-from aliases includes xs ys =
    let entries = entries_of aliases includes in
    sym (firsts-is (entries ++ xs ++ ys))
    ∙ with_nodes-append [] (entries ++ xs) ys
    ∙ ap (λ (ns : List Node). with_nodes ns ys) (with_nodes-append [] entries xs)
    ∙ ap (λ (ns : List Node). with_nodes (with_nodes ns xs) ys) (firsts-is entries ∙ first_entries 0 aliases 0 includes)
