-- Lemmas on nodes by their numbers.
use Rattle.std.proofs.Common.{◌≡◌, ℕ, zero, suc, eqb, ◌+◌, ◌-◌, ◌<◌, ◌≤◌, ◌^◌, false, inl, inr, Some, List, [], ◌∷◌, ◌++◌, length, map, take, get_or, slice_get, refl, sym, ap, ◌∙◌, subst, arith}
use Rattle.std.specs.List.{list_any, range_with_len}
use Rattle.std.proofs.lemmas.Bool.{cases_lt, or_from, ne_eqb}
use Rattle.std.proofs.lemmas.List.{append_assoc, append-nil, length-append, length_push, drop-append-le, drop_all, take_more, map_push, get_or_append_left, get_or-append-add, get_or_push}
use Rattle.std.proofs.lemmas.List.Folds.{list_any-append}
use Rattle.std.proofs.lemmas.List.FromFn.{length-map-range_with_len, get_or-map-range_with_len}
use Rattle.std.proofs.lemmas.Option.{slice_get_within, slice_get-get_or, get_or_from_slice_get}
use Rattle.relay_tables.specs.declared.node.Node.{Node}
use Rattle.relay_tables.specs.declared.node.Node.TheVariants.{Alias, Include, Mailbox, Remote, Missing, NoInclude, Command, File}
use Rattle.relay_tables.specs.declared.lead.Lead.{Lead}
use Rattle.relay_tables.specs.declared.lead.Lead.TheVariants as lead
use Rattle.relay_tables.specs.Graphs.{same_node}
use Rattle.relay_tables.specs.Numbering.{node_hash, node_of, entries_of, behind_of, with_nodes, AreNumbered}
use Rattle.relay_tables.proofs.NodeKeys.{any_at}
use Rattle.relay_tables.proofs.Firsts.{with_node-there, with_node-new, with_nodes-one}

pub last_is : {X : Type 0} (xs : List X) (x : X) (k : ℕ) → length xs ≡ k → slice_get (xs ++ x ∷ []) k ≡ Some x
last_is {X} xs x k at =
    slice_get-get_or (xs ++ x ∷ []) k x (omega (arith, length_push xs x)) ∙ ap (λ (y : X). Some y) (get_or_push xs x x k at)

pub length-entries : (aliases includes : ℕ) → length (entries_of aliases includes) ≡ aliases + includes
length-entries aliases includes =
    omega (arith, length-append (map Alias (range_with_len 0 aliases)) (map Include (range_with_len 0 includes)), length-map-range_with_len Alias 0 aliases, length-map-range_with_len Include 0 includes)

pub entry_alias : (aliases includes k : ℕ) → k < aliases → get_or (entries_of aliases includes) k (Alias k) ≡ Alias k
entry_alias aliases includes k below =
    get_or_append_left (map Alias (range_with_len 0 aliases)) (map Include (range_with_len 0 includes)) (Alias k) k (omega (arith, length-map-range_with_len Alias 0 aliases))
    ∙ get_or-map-range_with_len Alias 0 aliases k k (Alias k) below (omega arith)

pub entry_include : (aliases includes k : ℕ) → k < includes → get_or (entries_of aliases includes) (aliases + k) (Include k) ≡ Include k
entry_include aliases includes k below =
    let size : length (map Alias (range_with_len 0 aliases)) + k ≡ aliases + k = omega (arith, length-map-range_with_len Alias 0 aliases) in
    ap (λ (i : ℕ). get_or (entries_of aliases includes) i (Include k)) (sym size)
    ∙ get_or-append-add (map Alias (range_with_len 0 aliases)) (map Include (range_with_len 0 includes)) k (Include k)
    ∙ get_or-map-range_with_len Include 0 includes k k (Include k) below (omega arith)

-- the first entries and one more
pub entries_more : (aliases includes k : ℕ) (n : Node) → k < aliases + includes → (k < aliases → n ≡ Alias k) → (aliases ≤ k → n ≡ Include (k - aliases))
    → take (k + 1) (entries_of aliases includes) ≡ take k (entries_of aliases includes) ++ n ∷ []
entries_more aliases includes k n below alias include =
    take_more (entries_of aliases includes) k n (omega (arith, length-entries aliases includes)) ∙ ap (λ (m : Node). take k (entries_of aliases includes) ++ m ∷ []) there where
      there : get_or (entries_of aliases includes) k n ≡ n
      there =
          elim (cases_lt k aliases) [
            | inl front ↦ subst (λ (m : Node). get_or (entries_of aliases includes) k m ≡ m) (sym (alias front)) (entry_alias aliases includes k front)
            | inr behind ↦
                let sum : aliases + (k - aliases) ≡ k = omega arith in
                subst (λ (m : Node). get_or (entries_of aliases includes) k m ≡ m) (sym (include behind))
                (ap (λ (j : ℕ). get_or (entries_of aliases includes) j (Include (k - aliases))) (sym sum) ∙ entry_include aliases includes (k - aliases) (omega arith))
          ]

-- no other nodes than the entries yet
pub numbered_none : (aliases includes limit key : ℕ) (nodes : List Node) → nodes ≡ entries_of aliases includes → aliases + includes ≤ limit → limit ≤ 2 ^ 24
    → AreNumbered nodes aliases includes limit key []
numbered_none aliases includes limit key nodes is fits small =
    let entries = entries_of aliases includes in
    let long : length nodes ≡ aliases + includes = ap length is ∙ length-entries aliases includes in
    let none : behind_of aliases includes nodes ≡ [] = drop_all (aliases + includes) nodes (omega arith) in
    record {
      front = is ∙ sym (append-nil entries) ∙ ap (λ (ns : List Node). entries ++ ns) (sym none);
      hashed = sym (ap (map (node_hash key)) none);
      fits = fits;
      small = small;
      within = omega arith;
    }

-- a node that is there changes nothing
pub there_stays : (nodes : List Node) (k : ℕ) (n : Node) → slice_get nodes k ≡ Some n → with_nodes nodes (n ∷ []) ≡ nodes
there_stays nodes k n at = with_nodes-one nodes n ∙ with_node-there nodes n (any_at nodes k n at)

-- a number past a run is none of it
alias_past : (k a n : ℕ) → a + n ≤ k → list_any (same_node (Alias k)) (map Alias (range_with_len a n)) ≡ false
alias_past k a zero past = refl
alias_past k a (suc n) past = or_from (eqb k a) (list_any (same_node (Alias k)) (map Alias (range_with_len (a + 1) n))) (ne_eqb k a (λ e. omega arith)) (alias_past k (a + 1) n (omega arith))

include_past : (k a n : ℕ) → a + n ≤ k → list_any (same_node (Include k)) (map Include (range_with_len a n)) ≡ false
include_past k a zero past = refl
include_past k a (suc n) past = or_from (eqb k a) (list_any (same_node (Include k)) (map Include (range_with_len (a + 1) n))) (ne_eqb k a (λ e. omega arith)) (include_past k (a + 1) n (omega arith))

none_of_kind : (n : Node) (f : ℕ → Node) → ((k : ℕ) → same_node n (f k) ≡ false) → (ks : List ℕ) → list_any (same_node n) (map f ks) ≡ false
none_of_kind n f other [] = refl
none_of_kind n f other (k ∷ ks) = or_from (same_node n (f k)) (list_any (same_node n) (map f ks)) (other k) (none_of_kind n f other ks)

neither : (n : Node) (aliases includes : ℕ) → list_any (same_node n) (map Alias (range_with_len 0 aliases)) ≡ false → list_any (same_node n) (map Include (range_with_len 0 includes)) ≡ false
    → list_any (same_node n) (entries_of aliases includes) ≡ false
neither n aliases includes a i =
    list_any-append (same_node n) (map Alias (range_with_len 0 aliases)) (map Include (range_with_len 0 includes))
    ∙ or_from (list_any (same_node n) (map Alias (range_with_len 0 aliases))) (list_any (same_node n) (map Include (range_with_len 0 includes))) a i

-- what doesn't stand in front
abbrev pub IsLater : ℕ → ℕ → Node → Type 0
IsLater aliases includes (Alias k) = aliases ≤ k
IsLater aliases includes (Include k) = includes ≤ k
IsLater aliases includes n = Unit {0}

pub no_entry : (aliases includes : ℕ) (n : Node) → IsLater aliases includes n → list_any (same_node n) (entries_of aliases includes) ≡ false
no_entry aliases includes (Alias k) later = neither (Alias k) aliases includes (alias_past k 0 aliases (omega arith)) (none_of_kind (Alias k) Include (λ j. refl) (range_with_len 0 includes))
no_entry aliases includes (Include k) later = neither (Include k) aliases includes (none_of_kind (Include k) Alias (λ j. refl) (range_with_len 0 aliases)) (include_past k 0 includes (omega arith))
no_entry aliases includes (Mailbox a) later = neither (Mailbox a) aliases includes (none_of_kind (Mailbox a) Alias (λ j. refl) (range_with_len 0 aliases)) (none_of_kind (Mailbox a) Include (λ j. refl) (range_with_len 0 includes))
no_entry aliases includes (Remote a) later = neither (Remote a) aliases includes (none_of_kind (Remote a) Alias (λ j. refl) (range_with_len 0 aliases)) (none_of_kind (Remote a) Include (λ j. refl) (range_with_len 0 includes))
no_entry aliases includes (Missing t) later = neither (Missing t) aliases includes (none_of_kind (Missing t) Alias (λ j. refl) (range_with_len 0 aliases)) (none_of_kind (Missing t) Include (λ j. refl) (range_with_len 0 includes))
no_entry aliases includes (NoInclude t) later = neither (NoInclude t) aliases includes (none_of_kind (NoInclude t) Alias (λ j. refl) (range_with_len 0 aliases)) (none_of_kind (NoInclude t) Include (λ j. refl) (range_with_len 0 includes))
no_entry aliases includes (Command t) later = neither (Command t) aliases includes (none_of_kind (Command t) Alias (λ j. refl) (range_with_len 0 aliases)) (none_of_kind (Command t) Include (λ j. refl) (range_with_len 0 includes))
no_entry aliases includes (File t) later = neither (File t) aliases includes (none_of_kind (File t) Alias (λ j. refl) (range_with_len 0 aliases)) (none_of_kind (File t) Include (λ j. refl) (range_with_len 0 includes))

-- what no lead to an entry leads to
pub other_behind : (aliases includes : ℕ) (l : Lead) → ((k : ℕ) → l ≡ lead.Alias k → ⊥) → ((k : ℕ) → l ≡ lead.Include k → ⊥) → list_any (same_node (node_of l)) (entries_of aliases includes) ≡ false
other_behind aliases includes (lead.Alias k) a i = absurd (a k refl)
other_behind aliases includes (lead.Include k) a i = absurd (i k refl)
other_behind aliases includes (lead.Mailbox l o) a i = no_entry aliases includes (node_of (lead.Mailbox l o)) tt
other_behind aliases includes (lead.Written x) a i = no_entry aliases includes (node_of (lead.Written x)) tt
other_behind aliases includes (lead.Remote x) a i = no_entry aliases includes (node_of (lead.Remote x)) tt
other_behind aliases includes (lead.Missing t) a i = no_entry aliases includes (node_of (lead.Missing t)) tt
other_behind aliases includes (lead.NoInclude t) a i = no_entry aliases includes (node_of (lead.NoInclude t)) tt
other_behind aliases includes (lead.Command t) a i = no_entry aliases includes (node_of (lead.Command t)) tt
other_behind aliases includes (lead.File t) a i = no_entry aliases includes (node_of (lead.File t)) tt

module _ (nodes : List Node) (aliases includes limit key : ℕ) (hashes : List ℕ) (p : AreNumbered nodes aliases includes limit key hashes) where
  abbrev later : List Node
  later = behind_of aliases includes nodes

  long : length nodes ≡ (aliases + includes) + length later
  long = ap length p.front ∙ omega (arith, length-append (entries_of aliases includes) (behind_of aliases includes nodes), length-entries aliases includes)

  pub entries_within : aliases + includes ≤ length nodes
  entries_within = omega (arith, long)

  in_front : (k : ℕ) (n : Node) → k < aliases + includes → get_or (entries_of aliases includes) k n ≡ n → slice_get nodes k ≡ Some n
  in_front k n below at =
      slice_get-get_or nodes k n (omega (arith, long))
      ∙ ap (λ (x : Node). Some x) (ap (λ (ns : List Node). get_or ns k n) p.front ∙ get_or_append_left (entries_of aliases includes) (behind_of aliases includes nodes) n k (omega (arith, length-entries aliases includes)) ∙ at)

  -- the aliases and include files by their numbers
  pub alias_at : (k : ℕ) → k < aliases → slice_get nodes k ≡ Some (Alias k)
  alias_at k below = in_front k (Alias k) (omega arith) (entry_alias aliases includes k below)

  pub include_at : (k : ℕ) → k < includes → slice_get nodes (aliases + k) ≡ Some (Include k)
  include_at k below = in_front (aliases + k) (Include k) (omega arith) (entry_include aliases includes k below)

  -- a node that is found behind the entries
  pub found : (n : Node) (number : ℕ) → slice_get later number ≡ Some n → slice_get nodes (aliases + includes + number) ≡ Some n
  found n number at =
      let below = slice_get_within later number n at in
      let size : length (entries_of aliases includes) + number ≡ aliases + includes + number = omega (arith, length-entries aliases includes) in
      slice_get-get_or nodes (aliases + includes + number) n (omega (arith, long, below))
      ∙ ap (λ (x : Node). Some x)
      (ap (λ (ns : List Node). get_or ns (aliases + includes + number) n) p.front
      ∙ ap (λ (i : ℕ). get_or (entries_of aliases includes ++ later) i n) (sym size)
      ∙ get_or-append-add (entries_of aliases includes) later number n
      ∙ get_or_from_slice_get later number n n at)

  -- a node that isn't found behind them
  pub new_grows : (n : Node) → list_any (same_node n) (entries_of aliases includes) ≡ false → list_any (same_node n) later ≡ false → with_nodes nodes (n ∷ []) ≡ nodes ++ n ∷ []
  new_grows n no_front no_later =
      let no_node : list_any (same_node n) nodes ≡ false =
      ap (λ (ns : List Node). list_any (same_node n) ns) p.front
      ∙ list_any-append (same_node n) (entries_of aliases includes) later
      ∙ or_from (list_any (same_node n) (entries_of aliases includes)) (list_any (same_node n) later) no_front no_later in
      with_nodes-one nodes n ∙ with_node-new nodes n no_node

  pub new_numbered : (n : Node) → (length nodes ≡ limit → ⊥) → AreNumbered (nodes ++ n ∷ []) aliases includes limit key (hashes ++ node_hash key n ∷ [])
  new_numbered n more =
      let behind : behind_of aliases includes (nodes ++ n ∷ []) ≡ later ++ n ∷ [] = drop-append-le (aliases + includes) nodes (n ∷ []) (omega (arith, long)) in
      record {
        front = ap (λ (ns : List Node). ns ++ n ∷ []) p.front ∙ append_assoc (entries_of aliases includes) later (n ∷ []) ∙ ap (λ (ns : List Node). entries_of aliases includes ++ ns) (sym behind);
        hashed = ap (λ (hs : List ℕ). hs ++ node_hash key n ∷ []) p.hashed ∙ sym (map_push (node_hash key) later n) ∙ ap (map (node_hash key)) (sym behind);
        fits = p.fits;
        small = p.small;
        within = omega (arith, length_push nodes n, p.within);
      }
