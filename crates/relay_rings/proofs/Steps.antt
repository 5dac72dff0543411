-- Where the links of a vector of nodes lead, and what a new node leaves of that.
use Rattle.std.proofs.Common.{◌≡◌, ℕ, ◌+◌, ◌-◌, ◌<◌, List, [], ◌∷◌, ◌++◌, length, get_or, set, refl, sym, ap, ◌∙◌, arith, zero, suc, inl, inr, eqb}
use Rattle.std.specs.List.{All}
use Rattle.std.proofs.lemmas.List.Elements.{All-push, All-set, All-weaker}
use Rattle.std.proofs.lemmas.Bool.{cases_eq, eq-eqb, ne_eqb, cond-true, cond-false}
use Rattle.std.proofs.lemmas.List.{get_or_append_left, get_or_push, get_or_read, get_or-set_same, get_or-set_other, length-set, length_push, set-append_left}
use Rattle.relay_rings.specs.Links.{node_at, after, items_from, linked}
use Rattle.relay_rings.specs.declared.walking.Node.{Node}
use Rattle.relay_rings.specs.declared.linking.Ring.{Ring}

-- each link is the number of a node
abbrev pub AreLinks : List Node → Type 0
AreLinks nodes = All (λ (n : Node). n.link < length nodes) nodes

pub after_within : (nodes : List Node) → AreLinks nodes → (n k : ℕ) → n < length nodes → after nodes n k < length nodes
after_within nodes h n zero b = b
after_within nodes h n (suc k) b = after_within nodes h (node_at nodes n).link k (h n (record { item = 0; link = 0 }) b)

pub after-suc : (nodes : List Node) (n k : ℕ) → after nodes n (suc k) ≡ (node_at nodes (after nodes n k)).link
after-suc nodes n zero = refl
after-suc nodes n (suc k) = after-suc nodes (node_at nodes n).link k

pub items_from-push : (nodes : List Node) (n k : ℕ) → items_from nodes n (suc k) ≡ items_from nodes n k ++ (node_at nodes (after nodes n k)).item ∷ []
items_from-push nodes n zero = refl
items_from-push nodes n (suc k) = ap (λ xs. (node_at nodes n).item ∷ xs) (items_from-push nodes (node_at nodes n).link k)

pub length-items_from : (nodes : List Node) (n k : ℕ) → length (items_from nodes n k) ≡ k
length-items_from nodes n zero = refl
length-items_from nodes n (suc k) = ap suc (length-items_from nodes (node_at nodes n).link k)

-- the first of the items that are left, and the others
pub items_from-first : (nodes : List Node) (n k : ℕ) → 0 < k → items_from nodes n k ≡ (node_at nodes n).item ∷ items_from nodes (node_at nodes n).link (k - 1)
items_from-first nodes n zero h = absurd (omega arith)
items_from-first nodes n (suc k) h =
    let e : suc k - 1 ≡ k = omega arith in
    ap (λ j. (node_at nodes n).item ∷ items_from nodes (node_at nodes n).link j) (sym e)

-- each node keeps its item, and its link too unless it's the changed node
pub record Keeps (nodes grown : List Node) (changed : ℕ) : Type 0 where
  pub items : (x : ℕ) → x < length nodes → (node_at grown x).item ≡ (node_at nodes x).item
  pub links : (x : ℕ) → x < length nodes → (x ≡ changed → ⊥) → (node_at grown x).link ≡ (node_at nodes x).link

pub after_kept : (nodes grown : List Node) (changed : ℕ) → Keeps nodes grown changed → AreLinks nodes → (n k : ℕ) → n < length nodes → ((j : ℕ) → j < k → after nodes n j ≡ changed → ⊥) → after grown n k ≡ after nodes n k
after_kept nodes grown changed keeps h n zero b off = refl
after_kept nodes grown changed keeps h n (suc k) b off =
    let same : (node_at grown n).link ≡ (node_at nodes n).link = keeps.links n b (off 0 (omega arith)) in
    ap (λ x. after grown x k) same
    ∙ after_kept nodes grown changed keeps h (node_at nodes n).link k (h n (record { item = 0; link = 0 }) b) (λ j l. off (suc j) (omega arith))

pub items_kept : (nodes grown : List Node) (changed : ℕ) → Keeps nodes grown changed → AreLinks nodes → (n k : ℕ) → n < length nodes → ((j : ℕ) → j + 1 < k → after nodes n j ≡ changed → ⊥) → items_from grown n k ≡ items_from nodes n k
items_kept nodes grown changed keeps h n zero b off = refl
items_kept nodes grown changed keeps h n (suc zero) b off = ap (λ i. i ∷ []) (keeps.items n b)
items_kept nodes grown changed keeps h n (suc (suc k)) b off =
    let same : (node_at grown n).link ≡ (node_at nodes n).link = keeps.links n b (off 0 (omega arith)) in
    ap (λ i. i ∷ items_from grown (node_at grown n).link (suc k)) (keeps.items n b)
    ∙ ap (λ x. (node_at nodes n).item ∷ items_from grown x (suc k)) same
    ∙ ap (λ xs. (node_at nodes n).item ∷ xs) (items_kept nodes grown changed keeps h (node_at nodes n).link (suc k) (h n (record { item = 0; link = 0 }) b) (λ j l. off (suc j) (omega arith)))

-- A node at the end of the vector, with the new item: the changed node links to it, and it links on as the newest node did.
pub record IsLinkedIn (nodes grown : List Node) (ring : Ring) (changed item : ℕ) : Type 0 where
  pub longer : length grown ≡ length nodes + 1
  pub keeps : Keeps nodes grown changed
  pub item_is : (node_at grown (length nodes)).item ≡ item
  pub opens : 0 < ring.count → (node_at grown (length nodes)).link ≡ (node_at nodes ring.newest).link
  pub closes : (node_at grown changed).link ≡ length nodes
  pub links : AreLinks grown
  pub alone : ring.count ≡ 0 → changed ≡ length nodes
  pub joined : 0 < ring.count → changed ≡ ring.newest

pub linked_alone : (nodes : List Node) (ring : Ring) (item : ℕ) → AreLinks nodes → ring.count ≡ 0 → IsLinkedIn nodes (linked nodes ring item) ring (length nodes) item
linked_alone nodes ring item h none =
    let new : Node = record { item = item; link = length nodes } in
    let grown : List Node = nodes ++ new ∷ [] in
    let is : linked nodes ring item ≡ grown = cond-true (eqb ring.count 0) _ _ (eq-eqb ring.count 0 none) in
    let long : length grown ≡ length nodes + 1 = length_push nodes new in
    let last : node_at grown (length nodes) ≡ new = get_or_push nodes new (record { item = 0; link = 0 }) (length nodes) refl in
    let before : (x : ℕ) → x < length nodes → node_at grown x ≡ node_at nodes x = λ x b. get_or_append_left nodes (new ∷ []) (record { item = 0; link = 0 }) x b in
    let built : IsLinkedIn nodes grown ring (length nodes) item = record {
      longer = long;
      keeps = record { items = λ x b. ap (λ (n : Node). n.item) (before x b); links = λ x b _. ap (λ (n : Node). n.link) (before x b) };
      item_is = ap (λ (n : Node). n.item) last;
      opens = λ some. absurd (omega arith);
      closes = ap (λ (n : Node). n.link) last;
      links = All-push (λ (n : Node). n.link < length grown) nodes new (All-weaker (λ (n : Node). n.link < length nodes) (λ (n : Node). n.link < length grown) (λ n b. omega arith) nodes h) (omega arith);
      alone = λ _. refl;
      joined = λ some. absurd (omega arith);
    } in
    rw is built

pub linked_between : (nodes : List Node) (ring : Ring) (item : ℕ) → AreLinks nodes → 0 < ring.count → ring.newest < length nodes → IsLinkedIn nodes (linked nodes ring item) ring ring.newest item
linked_between nodes ring item h some b =
    let blank : Node = record { item = 0; link = 0 } in
    let t = ring.newest in
    let closing : Node = record { item = (node_at nodes t).item; link = length nodes } in
    let new : Node = record { item = item; link = (node_at nodes t).link } in
    let front : List Node = set nodes t closing in
    let grown : List Node = front ++ new ∷ [] in
    let is : linked nodes ring item ≡ grown = cond-false (eqb ring.count 0) _ _ (ne_eqb ring.count 0 (λ none. omega arith)) in
    let same : length front ≡ length nodes = length-set nodes t closing in
    let long : length grown ≡ length nodes + 1 = length_push front new ∙ ap (λ n. n + 1) same in
    let last : node_at grown (length nodes) ≡ new = get_or_push front new blank (length nodes) same in
    let in_front : (x : ℕ) → x < length nodes → node_at grown x ≡ node_at front x = λ x l. get_or_append_left front (new ∷ []) blank x (omega arith) in
    let there : node_at grown t ≡ closing = in_front t b ∙ get_or-set_same nodes t closing blank b in
    let others : (x : ℕ) → x < length nodes → (x ≡ t → ⊥) → node_at grown x ≡ node_at nodes x = λ x l ne. in_front x l ∙ get_or-set_other nodes t x closing blank ne in
    let first : (node_at nodes t).link < length nodes = h t blank b in
    let built : IsLinkedIn nodes grown ring t item = record {
      longer = long;
      keeps = record {
        items = λ x l. elim (cases_eq x t) [
          | inl e ↦ ap (λ y. (node_at grown y).item) e ∙ ap (λ (n : Node). n.item) there ∙ ap (λ y. (node_at nodes y).item) (sym e)
          | inr ne ↦ ap (λ (n : Node). n.item) (others x l ne)
        ];
        links = λ x l ne. ap (λ (n : Node). n.link) (others x l ne);
      };
      item_is = ap (λ (n : Node). n.item) last;
      opens = λ _. ap (λ (n : Node). n.link) last;
      closes = ap (λ (n : Node). n.link) there;
      links = All-push (λ (n : Node). n.link < length grown) front new (All-set (λ (n : Node). n.link < length grown) nodes t closing (omega arith) (All-weaker (λ (n : Node). n.link < length nodes) (λ (n : Node). n.link < length grown) (λ n l. omega arith) nodes h)) (omega arith);
      alone = λ none. absurd (omega arith);
      joined = λ _. refl;
    } in
    rw is built

-- a push, and then a write to the newest node's link
pub linked_by_push : (nodes grown : List Node) (ring : Ring) (item number : ℕ) (read written : Node) → number ≡ length nodes → (ring.count ≡ 0 → ⊥) → ring.newest < length nodes → read ≡ get_or nodes ring.newest read → grown ≡ nodes ++ record { item = item; link = read.link } ∷ [] → written ≡ get_or grown ring.newest written → set grown ring.newest (record { item = written.item; link = number }) ≡ linked nodes ring item
linked_by_push nodes grown ring item number read written number_is some b reads pushes writes =
    let blank : Node = record { item = 0; link = 0 } in
    let t = ring.newest in
    let new : Node = record { item = item; link = read.link } in
    let closing : Node = record { item = (node_at nodes t).item; link = length nodes } in
    let r : read ≡ node_at nodes t = get_or_read nodes t read b reads blank in
    let w : written ≡ node_at nodes t = get_or_read grown t written (omega (arith, ap length pushes, length_push nodes new)) writes blank ∙ ap (λ xs. node_at xs t) pushes ∙ get_or_append_left nodes (new ∷ []) blank t b in
    let is : linked nodes ring item ≡ set nodes t closing ++ record { item = item; link = (node_at nodes t).link } ∷ [] = cond-false (eqb ring.count 0) _ _ (ne_eqb ring.count 0 some) in
    ap (λ xs. set xs t (record { item = written.item; link = number })) pushes
    ∙ set-append_left nodes (new ∷ []) t (record { item = written.item; link = number }) b
    ∙ ap (λ (n : Node). set nodes t (record { item = n.item; link = number }) ++ new ∷ []) w
    ∙ ap (λ l. set nodes t (record { item = (node_at nodes t).item; link = l }) ++ new ∷ []) number_is
    ∙ ap (λ (n : Node). set nodes t closing ++ record { item = item; link = n.link } ∷ []) r
    ∙ sym is

-- how many items a walk gives
pub ruleset walks = (length-items_from)
