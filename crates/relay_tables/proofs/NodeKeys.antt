-- Lemmas on nodes: which are the same, and that a node's key tells it.
use Rattle.std.proofs.Common.{◌≡◌, ℕ, zero, suc, ◌+◌, ◌<◌, Bool, true, false, ◌||◌, cond, ltb, inl, inr, Some, None, List, [], ◌∷◌, length, take, drop, slice_get, position, refl, sym, ap, ◌∙◌, subst, arith}
use Rattle.std.specs.Prelude.{not}
use Rattle.std.specs.List.{list_any, position_or_len}
use Rattle.std.specs.Str.{bytes_eq}
use Rattle.std.proofs.lemmas.Bool.{cases_Bool, both_ways, false≢true, eqb-true, eq-eqb, and_parts, and_from, or_left, or_right, false_from_ne_true, lt-ltb, cond-true}
use Rattle.std.proofs.lemmas.List.{drop_at, take_at}
use Rattle.std.proofs.lemmas.Option.{none-some, same_Some}
use Rattle.std.proofs.lemmas.Slice.Eq.{bytes_eq-Decides}
use Rattle.relay_text.specs.AddressParts.{AddressParts}
use Rattle.relay_text.specs.JoinedAddresses.{joined_text_of}
use Rattle.relay_tables.specs.declared.node.Node.{Node}
use Rattle.relay_tables.specs.declared.node.Node.TheVariants.{Alias, Include, Mailbox, Remote, Missing, NoInclude, Command, File}
use Rattle.relay_tables.specs.Graphs.{same_address, same_node}
use Rattle.relay_tables.specs.Numbering.{address_key}

bytes_true : (xs ys : List ℕ) → bytes_eq xs ys ≡ true → xs ≡ ys
bytes_true xs ys e = (bytes_eq-Decides xs ys).0 e

pub bytes_same : (xs ys : List ℕ) → xs ≡ ys → bytes_eq xs ys ≡ true
bytes_same xs ys e = (bytes_eq-Decides xs ys).1 e

abbrev address_at : List ℕ → List ℕ → AddressParts
address_at local domain = record { local = local; domain = domain }

pub same_parts : (a b : AddressParts) → a.local ≡ b.local → a.domain ≡ b.domain → a ≡ b
same_parts a b l d = ap (λ (x : List ℕ). address_at x a.domain) l ∙ ap (address_at b.local) d

address_true : (a b : AddressParts) → same_address a b ≡ true → a ≡ b
address_true a b e =
    let p = and_parts (bytes_eq a.local b.local) (bytes_eq a.domain b.domain) e in
    same_parts a b (bytes_true a.local b.local p.0) (bytes_true a.domain b.domain p.1)

address_same : (a : AddressParts) → same_address a a ≡ true
address_same a = and_from (bytes_eq a.local a.local) (bytes_eq a.domain a.domain) (bytes_same a.local a.local refl) (bytes_same a.domain a.domain refl)

-- addresses of one joined text are the same
pub address_joined : (a b : AddressParts) → (joined_text_of a ≡ joined_text_of b → a ≡ b) → bytes_eq (joined_text_of a) (joined_text_of b) ≡ same_address a b
address_joined a b tells =
    elim (cases_Bool (same_address a b)) [
      | inl same ↦ bytes_same (joined_text_of a) (joined_text_of b) (ap joined_text_of (address_true a b same)) ∙ sym same
      | inr other ↦
          false_from_ne_true (bytes_eq (joined_text_of a) (joined_text_of b)) (λ e.
          both_ways (same_address a b) other (subst (λ (x : AddressParts). same_address a x ≡ true) (tells (bytes_true (joined_text_of a) (joined_text_of b) e)) (address_same a)))
          ∙ sym other
    ]

-- nodes that pass the test are the same
pub node_true : (m n : Node) → same_node m n ≡ true → m ≡ n
node_true (Alias m) (Alias n) e = ap Alias (eqb-true m n e)
node_true (Include m) (Include n) e = ap Include (eqb-true m n e)
node_true (Mailbox a) (Mailbox b) e = ap Mailbox (address_true a b e)
node_true (Remote a) (Remote b) e = ap Remote (address_true a b e)
node_true (Missing s) (Missing t) e = ap Missing (bytes_true s t e)
node_true (NoInclude s) (NoInclude t) e = ap NoInclude (bytes_true s t e)
node_true (Command s) (Command t) e = ap Command (bytes_true s t e)
node_true (File s) (File t) e = ap File (bytes_true s t e)
node_true m n e = absurd (false≢true e)

itself : (n : Node) → same_node n n ≡ true
itself (Alias n) = eq-eqb n n refl
itself (Include n) = eq-eqb n n refl
itself (Mailbox a) = address_same a
itself (Remote a) = address_same a
itself (Missing t) = bytes_same t t refl
itself (NoInclude t) = bytes_same t t refl
itself (Command t) = bytes_same t t refl
itself (File t) = bytes_same t t refl

pub node_same : (m n : Node) → m ≡ n → same_node m n ≡ true
node_same m n e = subst (λ (x : Node). same_node m x ≡ true) e (itself m)

-- An address is told by its key.
pub address_from : List ℕ → AddressParts
address_from [] = address_at [] []
address_from (n ∷ text) = address_at (drop n text) (take n text)

pub address_back : (a : AddressParts) → address_from (address_key a) ≡ a
unfolding address_from
address_back a = same_parts (address_from (address_key a)) a (drop_at a.domain a.local (length a.domain) refl) (take_at a.domain a.local (length a.domain) refl)

-- a node that stands somewhere is among them
pub any_at : (nodes : List Node) (k : ℕ) (n : Node) → slice_get nodes k ≡ Some n → list_any (same_node n) nodes ≡ true
any_at [] k n e = absurd (none-some n e)
any_at (x ∷ xs) zero n e = or_left (same_node n x) (list_any (same_node n) xs) (node_same n x (sym (same_Some x n e)))
any_at (x ∷ xs) (suc k) n e = or_right (same_node n x) (list_any (same_node n) xs) (any_at xs k n e)

first_within : {X : Type 0} (p : X → Bool) (xs : List X) → list_any p xs ≡ true → position_or_len p xs < length xs
first_within p [] e = absurd (false≢true e)
first_within p (x ∷ xs) e = at (p x) e (first_within p xs) where
  at : (b : Bool) → (b || list_any p xs) ≡ true → (list_any p xs ≡ true → position_or_len p xs < length xs) → cond (not b) (1 + position_or_len p xs) 0 < suc (length xs)
  at true f rest = omega arith
  at false f rest = let r = rest f in omega arith

-- where there is no place, no element passes
pub none_by_place : {X : Type 0} (p : X → Bool) (xs : List X) → position p xs ≡ None → list_any p xs ≡ false
none_by_place p xs none =
    false_from_ne_true (list_any p xs) (λ some.
    none-some (position_or_len p xs) (sym none ∙ cond-true (ltb (position_or_len p xs) (length xs)) (Some (position_or_len p xs)) None (lt-ltb (position_or_len p xs) (length xs) (first_within p xs some))))
