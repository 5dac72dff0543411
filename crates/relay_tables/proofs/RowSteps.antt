-- Lemmas on rows of node numbers.
use Rattle.std.proofs.Common.{◌≡◌, ℕ, zero, suc, ◌+◌, ◌<◌, ◌≤◌, Bool, Option, Some, Result, Err, List, [], ◌∷◌, ◌++◌, length, map, get_or, take, drop, slice_get, refl, sym, ap, ◌∙◌, arith}
use Rattle.std.specs.Prelude.{IsTrue}
use Rattle.std.specs.List.{list_all}
use Rattle.std.proofs.lemmas.Bool.{and_parts}
use Rattle.std.proofs.lemmas.List.{map-append, map_more, take-append-drop}
use Rattle.relay_tables.specs.declared.node.Node.{Node}
use Rattle.relay_tables.specs.declared.fault.TableFault.{TableFault}
use Rattle.relay_tables.specs.declared.fault.TableFault.TheVariants.{TooManyNames, TooManyOwners, Memory}
use Rattle.relay_tables.specs.Numbering.{Numbered, with_nodes, with_all, Numbers}
use Rattle.relay_tables.specs.Rowing.{nodes_in, some_of, LeadTo}
use Rattle.relay_tables.proofs.Firsts.{with_nodes-none, with_nodes-append, no_fewer, stays}

abbrev pub with_these : Numbered → List Node → Numbered
with_these s ns = record { nodes = ns; aliases = s.aliases; includes = s.includes; limit = s.limit }

pub with_all-none : (s : Numbered) → with_all s [] ≡ s
with_all-none s = ap (with_these s) (with_nodes-none s.nodes)

pub with_all-append : (s : Numbered) (xs ys : List Node) → with_all (with_all s xs) ys ≡ with_all s (xs ++ ys)
with_all-append s xs ys = ap (with_these s) (sym (with_nodes-append s.nodes xs ys))

-- one step after others
pub with_all-more : (s mid new : Numbered) (xs ys all : List Node) → mid ≡ with_all s xs → new ≡ with_all mid ys → all ≡ xs ++ ys → new ≡ with_all s all
with_all-more s mid new xs ys all before step is =
    step ∙ ap (λ (m : Numbered). with_all m ys) before ∙ with_all-append s xs ys ∙ ap (with_all s) (sym is)

-- where a step finds too many nodes, all steps do
pub too_many : (s mid : Numbered) (xs ys rest all : List Node) → mid ≡ with_all s xs → all ≡ xs ++ ys ++ rest → mid.limit < length (with_nodes mid.nodes ys) → s.limit < length (with_nodes s.nodes all)
too_many s mid xs ys rest all before is h =
    let limit : mid.limit ≡ s.limit = ap (λ (m : Numbered). m.limit) before in
    let nodes : mid.nodes ≡ with_nodes s.nodes xs = ap (λ (m : Numbered). m.nodes) before in
    let front : with_nodes mid.nodes ys ≡ with_nodes s.nodes (xs ++ ys) = ap (λ (ns : List Node). with_nodes ns ys) nodes ∙ sym (with_nodes-append s.nodes xs ys) in
    let whole : with_nodes s.nodes all ≡ with_nodes (with_nodes s.nodes (xs ++ ys)) rest = ap (with_nodes s.nodes) is ∙ with_nodes-append s.nodes (xs ++ ys) rest in
    let fewer : length (with_nodes s.nodes (xs ++ ys)) ≤ length (with_nodes (with_nodes s.nodes (xs ++ ys)) rest) = no_fewer (with_nodes s.nodes (xs ++ ys)) rest in
    let a : length (with_nodes mid.nodes ys) ≡ length (with_nodes s.nodes (xs ++ ys)) = ap length front in
    let b : length (with_nodes s.nodes all) ≡ length (with_nodes (with_nodes s.nodes (xs ++ ys)) rest) = ap length whole in
    omega arith

pub refused : (A B : Type 0) (e : TableFault) (s mid end new : Numbered) (xs ys rest all : List Node) → mid ≡ with_all s xs → all ≡ xs ++ ys ++ rest
    → Numbers {A = A} mid ys (Err e) end → Numbers {A = B} s all (Err e) new
refused A B TooManyNames s mid end new xs ys rest all before is h = too_many s mid xs ys rest all before is h
refused A B TooManyOwners s mid end new xs ys rest all before is h = h
refused A B Memory s mid end new xs ys rest all before is h = tt

-- numbers lead where they led when more nodes come
pub row_stays : (nodes xs : List Node) (row : List ℕ) (ts : List Node) → nodes_in nodes row ≡ some_of ts → nodes_in (with_nodes nodes xs) row ≡ some_of ts
row_stays nodes xs [] [] e = refl
row_stays nodes xs [] (t ∷ ts) e = cc
row_stays nodes xs (k ∷ ks) [] e = cc
row_stays nodes xs (k ∷ ks) (t ∷ ts) e =
    let first : slice_get nodes k ≡ Some t = cc in
    let rest : nodes_in nodes ks ≡ some_of ts = cc in
    let now = stays nodes xs k t first in
    let later = row_stays nodes xs ks ts rest in
    cc

pub rows_stay : (nodes xs : List Node) (rows : List (List ℕ)) (tss : List (List Node)) → LeadTo nodes rows tss → LeadTo (with_nodes nodes xs) rows tss
rows_stay nodes xs [] [] e = refl
rows_stay nodes xs [] (t ∷ ts) e = cc
rows_stay nodes xs (k ∷ ks) [] e = cc
rows_stay nodes xs (k ∷ ks) (t ∷ ts) e =
    let first : nodes_in nodes k ≡ some_of t = cc in
    let rest : map (nodes_in nodes) ks ≡ map some_of ts = cc in
    let now = row_stays nodes xs k t first in
    let later = rows_stay nodes xs ks ts rest in
    cc

-- one more number at the end of a row
pub row_push : (nodes new : List Node) (row : List ℕ) (ts : List Node) (number : ℕ) (n : Node) → nodes_in nodes row ≡ some_of ts → new ≡ with_nodes nodes (n ∷ [])
    → slice_get new number ≡ Some n → nodes_in new (row ++ number ∷ []) ≡ some_of (ts ++ n ∷ [])
row_push nodes new row ts number n before is at =
    let now : nodes_in new row ≡ some_of ts = ap (λ (ns : List Node). nodes_in ns row) is ∙ row_stays nodes (n ∷ []) row ts before in
    map-append (slice_get new) row (number ∷ [])
    ∙ ap (λ (os : List (Option Node)). os ++ slice_get new number ∷ []) now
    ∙ ap (λ (o : Option Node). some_of ts ++ o ∷ []) at
    ∙ sym (map-append (λ (x : Node). Some x) ts (n ∷ []))

-- one more row
pub rows_push : (nodes new : List Node) (rows : List (List ℕ)) (tss : List (List Node)) (row : List ℕ) (ts : List Node) → LeadTo nodes rows tss → new ≡ with_nodes nodes ts
    → nodes_in new row ≡ some_of ts → LeadTo new (rows ++ row ∷ []) (tss ++ ts ∷ [])
rows_push nodes new rows tss row ts before is at =
    let now : map (nodes_in new) rows ≡ map some_of tss = ap (λ (ns : List Node). map (nodes_in ns) rows) is ∙ rows_stay nodes ts rows tss before in
    map-append (nodes_in new) rows (row ∷ [])
    ∙ ap (λ (os : List (List (Option Node))). os ++ nodes_in new row ∷ []) now
    ∙ ap (λ (o : List (Option Node)). map some_of tss ++ o ∷ []) at
    ∙ sym (map-append some_of tss (ts ∷ []))

-- each of the items is a good one
pub passes_at : {X : Type 0} (p : X → Bool) (xs : List X) (k : ℕ) (d : X) → IsTrue (list_all p xs) → k < length xs → IsTrue (p (get_or xs k d))
passes_at p [] k d all below = absurd (omega arith)
passes_at p (x ∷ xs) zero d all below = (and_parts (p x) (list_all p xs) all).0
passes_at p (x ∷ xs) (suc k) d all below = passes_at p xs k d (and_parts (p x) (list_all p xs) all).1 (omega arith)

-- the targets so far and one more, among all
pub map_more_at : {X Y : Type 0} (f : X → Y) (xs : List X) (i : ℕ) (x : X) → i < length xs → x ≡ get_or xs i x → map f (take (i + 1) xs) ≡ map f (take i xs) ++ f x ∷ []
map_more_at {X} {Y} f xs i x below is =
    map_more f xs i x below ∙ ap (λ (y : X). map f (take i xs) ++ f y ∷ []) (sym is)

pub map_split_at : {X Y : Type 0} (f : X → Y) (xs : List X) (i : ℕ) (x : X) → i < length xs → x ≡ get_or xs i x → map f xs ≡ map f (take i xs) ++ (f x ∷ []) ++ map f (drop (i + 1) xs)
map_split_at {X} {Y} f xs i x below is =
    ap (map f) (sym (take-append-drop (i + 1) xs))
    ∙ map-append f (take (i + 1) xs) (drop (i + 1) xs)
    ∙ ap (λ (ys : List Y). ys ++ map f (drop (i + 1) xs)) (map_more_at f xs i x below is)

pub same_fault : {A : Type 0} (e f : TableFault) → ◌≡◌ {A = Result A TableFault} (Err e) (Err f) → e ≡ f
same_fault e f is = cc
