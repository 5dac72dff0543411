-- Addresses and nodes that are the same, and where a node stands in a list.
use Rattle.std.proofs.Common.{◌≡◌, ℕ, zero, suc, ◌+◌, ◌<◌, ◌≤◌, Bool, true, false, cond, ltb, Some, None, List, [], ◌∷◌, length, slice_get, get_or, position, refl, sym, ap, ◌∙◌, subst, arith}
use Rattle.std.specs.Prelude.{IsTrue, Contains, not}
use Rattle.std.specs.List.{position_or_len}
use Rattle.std.specs.Str.{bytes_eq}
use Rattle.std.proofs.lemmas.Bool.{false≢true, true≢false, eqb-true, eq-eqb, and_parts, and_from, lt-ltb, cond-true, cond-false, le-ltb}
use Rattle.std.proofs.lemmas.List.Quantifiers.{position-Some}
use Rattle.std.proofs.lemmas.List.Sums.{position_or_len_is}
use Rattle.std.proofs.lemmas.Option.{none-some, slice_get-get_or}
use Rattle.std.proofs.lemmas.Slice.Eq.{bytes_eq-Decides}
use Rattle.relay_text.specs.AddressParts.{AddressParts}
use Rattle.relay_tables.specs.declared.node.Node.{Node}
use Rattle.relay_tables.specs.declared.node.Node.TheVariants.{Alias, Include, Mailbox, Remote, Missing, NoInclude, Command, File}
use Rattle.relay_tables.specs.Graphs.{same_address, same_node}

bytes_true : (xs ys : List ℕ) → bytes_eq xs ys ≡ true → xs ≡ ys
bytes_true xs ys e = (bytes_eq-Decides xs ys).0 e

bytes_same : (xs : List ℕ) → bytes_eq xs xs ≡ true
bytes_same xs = (bytes_eq-Decides xs xs).1 refl

abbrev address_at : List ℕ → List ℕ → AddressParts
address_at local domain = record { local = local; domain = domain }

same_parts : (a b : AddressParts) → a.local ≡ b.local → a.domain ≡ b.domain → a ≡ b
same_parts a b l d = ap (λ (x : List ℕ). address_at x a.domain) l ∙ ap (address_at b.local) d

pub address_true : (a b : AddressParts) → same_address a b ≡ true → a ≡ b
address_true a b e =
    let p = and_parts (bytes_eq a.local b.local) (bytes_eq a.domain b.domain) e in
    same_parts a b (bytes_true a.local b.local p.0) (bytes_true a.domain b.domain p.1)

pub address_self : (a : AddressParts) → same_address a a ≡ true
address_self a = and_from (bytes_eq a.local a.local) (bytes_eq a.domain a.domain) (bytes_same a.local) (bytes_same a.domain)

pub address_false : (a b : AddressParts) → same_address a b ≡ false → ¬ (a ≡ b)
address_false a b f e = true≢false (sym (subst (λ (x : AddressParts). same_address a x ≡ true) e (address_self a)) ∙ f)

pub same_address_is : (a b : AddressParts) → IsTrue (same_address a b) → a ≡ b
same_address_is a b t = address_true a b t

pub node_true : (m n : Node) → same_node m n ≡ true → m ≡ n
node_true (Alias m) (Alias n) e = ap Alias (eqb-true m n e)
node_true (Include m) (Include n) e = ap Include (eqb-true m n e)
node_true (Mailbox a) (Mailbox b) e = ap Mailbox (address_true a b e)
node_true (Remote a) (Remote b) e = ap Remote (address_true a b e)
node_true (Missing s) (Missing t) e = ap Missing (bytes_true s t e)
node_true (NoInclude s) (NoInclude t) e = ap NoInclude (bytes_true s t e)
node_true (Command s) (Command t) e = ap Command (bytes_true s t e)
node_true (File s) (File t) e = ap File (bytes_true s t e)
node_true m n e = absurd (false≢true e)

pub node_self : (n : Node) → same_node n n ≡ true
node_self (Alias n) = eq-eqb n n refl
node_self (Include n) = eq-eqb n n refl
node_self (Mailbox a) = address_self a
node_self (Remote a) = address_self a
node_self (Missing t) = bytes_same t
node_self (NoInclude t) = bytes_same t
node_self (Command t) = bytes_same t
node_self (File t) = bytes_same t

pub node_same : (m n : Node) → m ≡ n → same_node m n ≡ true
node_same m n e = subst (λ (x : Node). same_node m x ≡ true) e (node_self m)

pub same_node_is : (m n : Node) → IsTrue (same_node m n) → m ≡ n
same_node_is m n t = node_true m n t

pub same_node_self : (n : Node) → IsTrue (same_node n n)
same_node_self n = node_self n

-- the place that is found is the node's
pub found_at : (nodes : List Node) (node : Node) (n : ℕ) → position (same_node node) nodes ≡ Some n → slice_get nodes n ≡ Some node
found_at nodes node n e =
    let there = position-Some (same_node node) nodes n node e in
    slice_get-get_or nodes n node there.0 ∙ ap (λ (x : Node). Some x) (sym (node_true node (get_or nodes n node) there.1))

passes_within : {X : Type 0} (p : X → Bool) (xs : List X) (k : ℕ) (d : X) → k < length xs → p (get_or xs k d) ≡ true → position_or_len p xs < length xs
passes_within p [] k d below e = absurd (omega arith)
passes_within {X} p (x ∷ xs) zero d below e = at (p x) e where
  at : (b : Bool) → b ≡ true → cond (not b) (1 + position_or_len p xs) 0 < suc (length xs)
  at true f = omega arith
  at false f = absurd (false≢true f)
passes_within {X} p (x ∷ xs) (suc k) d below e = at (p x) (passes_within p xs k d (omega arith) e) where
  at : (b : Bool) → position_or_len p xs < length xs → cond (not b) (1 + position_or_len p xs) 0 < suc (length xs)
  at true rest = omega arith
  at false rest = omega arith

-- where there is no place, the node isn't there
pub not_found : (nodes : List Node) (node : Node) → position (same_node node) nodes ≡ None → ¬ Contains nodes node
not_found nodes node e (k, below, is) =
    let p = same_node node in
    let within = passes_within p nodes k node below (node_same node (get_or nodes k node) (sym is)) in
    none-some (position_or_len p nodes) (sym e ∙ cond-true (ltb (position_or_len p nodes) (length nodes)) (Some (position_or_len p nodes)) None (lt-ltb (position_or_len p nodes) (length nodes) within))

-- the first place that passes, and none where no place does
pub position_at : {X : Type 0} (p : X → Bool) (xs : List X) (i : ℕ) (d : X) → i < length xs → ((k : ℕ) → k < i → p (get_or xs k d) ≡ false) → p (get_or xs i d) ≡ true → position p xs ≡ Some i
position_at p xs i d below before here =
    let first = position_or_len_is p xs i d (omega arith) before (λ _. here) in
    let within : position_or_len p xs < length xs = omega arith in
    cond-true (ltb (position_or_len p xs) (length xs)) (Some (position_or_len p xs)) None (lt-ltb (position_or_len p xs) (length xs) within) ∙ ap (λ (k : ℕ). Some k) first

pub position_none : {X : Type 0} (p : X → Bool) (xs : List X) (i : ℕ) (d : X) → i ≡ length xs → ((k : ℕ) → k < i → p (get_or xs k d) ≡ false) → position p xs ≡ None
position_none p xs i d all before =
    let first = position_or_len_is p xs i d (omega arith) before (λ b. absurd (omega arith)) in
    let past : length xs ≤ position_or_len p xs = omega arith in
    cond-false (ltb (position_or_len p xs) (length xs)) (Some (position_or_len p xs)) None (le-ltb (position_or_len p xs) (length xs) past)
