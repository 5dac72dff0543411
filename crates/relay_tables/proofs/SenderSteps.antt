-- Lemmas on senders by their numbers.
use Rattle.std.proofs.Common.{◌≡◌, ◌≢◌, ℕ, zero, suc, ◌+◌, ◌<◌, ◌≤◌, Bool, true, false, eqb, Option, Some, None, Ok, Err, Result, List, [], ◌∷◌, ◌++◌, length, map, get_or, slice_get, refl, sym, ap, ◌∙◌, subst, arith, inl, inr}
use Rattle.std.specs.Prelude.{count_by, is_err, option_map, option_and_then, is_some}
use Rattle.std.specs.List.{list_any, range_with_len}
use Rattle.std.specs.Str.{bytes_eq}
use Rattle.std.proofs.lemmas.Bool.{cases_Bool, cond-true, cond-false, cases_lt, cases_eq, or_left, or_right, both_ways, true≢false}
use Rattle.std.proofs.lemmas.List.{length-map, length_push, get_or-map, get_or_append_left, get_or_push, map_push}
use Rattle.std.proofs.lemmas.List.Quantifiers.{position-Some, all_pairs_push}
use Rattle.std.proofs.lemmas.Option.{none-some, same_Some, slice_get_within, slice_get-get_or, get_or_from_slice_get}
use Rattle.std.proofs.lemmas.Slice.Eq.{bytes_eq-Decides}
use Rattle.relay_text.specs.AddressParts.{AddressParts}
use Rattle.relay_aliasfile.specs.declared.entry.Entry.{Entry}
use Rattle.relay_chains.specs.declared.fault.ChainFault.{ChainFault}
use Rattle.relay_chains.specs.declared.fault.ChainFault.TheVariants.{Full, Memory}
use Rattle.relay_chains.specs.Keys.{Insertion, number_of, insertion, insertion_at, Inserts}
use Rattle.relay_tables.specs.Directory.{Directory}
use Rattle.relay_tables.specs.Senders.{Sender, owner_number, owner_entry, sender_by}
use Rattle.relay_tables.specs.Graphs.{IsOwnerSender}
use Rattle.relay_tables.specs.Sending.{sender_key, AreSenders, IsOwnedBy, AreOf, AreOwned, MayAdd, MayAddOwner}
use Rattle.relay_tables.proofs.NodeKeys.{address_from, address_back, bytes_same, none_by_place}
use Rattle.relay_tables.proofs.Firsts.{get-append}
use Rattle.relay_tables.proofs.Runs.{counted_yes, counted_no}

-- what an interner has after a new text
pub interned : (keys : List (List ℕ)) (limit : ℕ) (key : List ℕ) (result : Result (ℕ × Bool) ChainFault) (new : List (List ℕ))
    → number_of bytes_eq keys key ≡ None → is_err result ≡ false → Inserts (insertion bytes_eq keys limit key) keys result new → new ≡ keys ++ key ∷ []
interned keys limit key (Err Full) new none ok h = absurd (true≢false ok)
interned keys limit key (Err Memory) new none ok h = absurd (true≢false ok)
interned keys limit key (Ok found) new none ok h =
    let given : insertion bytes_eq keys limit key ≡ insertion_at bytes_eq None keys limit key = ap (λ place. insertion_at bytes_eq place keys limit key) none in
    elim (cases_Bool (eqb (length keys) limit)) [
      | inl full ↦
          let refused = given ∙ cond-true (eqb (length keys) limit) _ _ full in
          let answer : (insertion bytes_eq keys limit key).answer ≡ Err Full = ap (λ (i : Insertion (List ℕ)). i.answer) refused in
          let other = sym answer ∙ h.0 in
          cc
      | inr room ↦
          let pushed = given ∙ cond-false (eqb (length keys) limit) _ _ room in
          h.1 ∙ ap (λ (i : Insertion (List ℕ)). i.keys) pushed
    ]

sender_from : List ℕ → Sender
sender_from [] = None
sender_from (kind ∷ rest) = Some (address_from rest)

sender_back : (s : Sender) → sender_from (sender_key s) ≡ s
unfolding sender_from sender_key
sender_back None = refl
sender_back (Some a) = ap (λ (x : AddressParts). Some x) (address_back a)

sender_tells : (s t : Sender) → sender_key s ≡ sender_key t → s ≡ t
sender_tells s t e = sym (sender_back s) ∙ ap sender_from e ∙ sender_back t

-- a sender whose key is there
pub sender_found : (senders : List Sender) (keys : List (List ℕ)) (s : Sender) (number : ℕ) → AreSenders senders keys → number_of bytes_eq keys (sender_key s) ≡ Some number
    → slice_get senders number ≡ Some s
sender_found senders keys s number p at =
    let place = position-Some (bytes_eq (sender_key s)) keys number [] at in
    let same_key : sender_key s ≡ get_or keys number [] = (bytes_eq-Decides (sender_key s) (get_or keys number [])).0 place.1 in
    let count : length keys ≡ length senders = ap length p.keys_are ∙ length-map senders sender_key in
    let key_is : get_or keys number [] ≡ sender_key (get_or senders number s) = ap (λ (ks : List (List ℕ)). get_or ks number []) p.keys_are ∙ get_or-map sender_key senders number s [] (omega (arith, place.0)) in
    slice_get-get_or senders number s (omega (arith, place.0)) ∙ ap (λ (x : Sender). Some x) (sym (sender_tells s (get_or senders number s) (same_key ∙ key_is)))

any_mapped : {X Y : Type 0} (p : Y → Bool) (f : X → Y) (xs : List X) (k : ℕ) (d : X) → k < length xs → p (f (get_or xs k d)) ≡ true → list_any p (map f xs) ≡ true
any_mapped p f [] k d below e = absurd (omega arith)
any_mapped p f (x ∷ xs) zero d below e = or_left (p (f x)) (list_any p (map f xs)) e
any_mapped p f (x ∷ xs) (suc k) d below e = or_right (p (f x)) (list_any p (map f xs)) (any_mapped p f xs k d (omega arith) e)

-- a sender whose key isn't there goes last
pub sender_new : (senders : List Sender) (keys : List (List ℕ)) (s : Sender) → AreSenders senders keys → number_of bytes_eq keys (sender_key s) ≡ None
    → AreSenders (senders ++ s ∷ []) (keys ++ sender_key s ∷ [])
sender_new senders keys s p none =
    let no_key : list_any (bytes_eq (sender_key s)) (map sender_key senders) ≡ false = ap (λ (ks : List (List ℕ)). list_any (bytes_eq (sender_key s)) ks) (sym p.keys_are) ∙ none_by_place (bytes_eq (sender_key s)) keys none in
    record {
      keys_are = ap (λ (ks : List (List ℕ)). ks ++ sender_key s ∷ []) p.keys_are ∙ sym (map_push sender_key senders s);
      distinct = all_pairs_push (λ x y. x ≢ y) senders s p.distinct (λ k d below same.
          both_ways (list_any (bytes_eq (sender_key s)) (map sender_key senders)) no_key
          (any_mapped (bytes_eq (sender_key s)) sender_key senders k d below (bytes_same (sender_key s) (sender_key (get_or senders k d)) (ap sender_key (sym same)))));
    }

pub none_of : (o : Option ℕ) → is_some o ≡ false → o ≡ None
none_of None e = refl
none_of (Some x) e = absurd (true≢false e)

module _ (d : Directory) where
  no_entry : (alias : ℕ) → owner_number d alias ≡ None → owner_entry d alias ≡ None
  no_entry alias none = ap (λ o. option_and_then (λ owner. slice_get d.aliases owner) o) none

  -- an alias without an owner
  pub not_owned : (senders : List Sender) (alias : ℕ) → owner_number d alias ≡ None → IsOwnedBy d senders None (owner_entry d alias)
  not_owned senders alias none = subst (λ (o : Option Entry). IsOwnedBy d senders None o) (sym (no_entry alias none)) tt

  -- an alias with an owner
  pub owned_as : (senders : List Sender) (owner : Option Entry) (number : ℕ) (a : AddressParts) → option_map (sender_by d) owner ≡ Some a → slice_get senders number ≡ Some (Some a)
      → IsOwnedBy d senders (Some number) owner
  owned_as senders None number a is at = absurd (none-some a is)
  owned_as senders (Some owner) number a is at =
      at ∙ ap (λ (x : AddressParts). Some (Some x)) (sym (same_Some (sender_by d owner) a is))

  owner_of : (owner : Option Entry) (a : AddressParts) → option_map (sender_by d) owner ≡ Some a → (e : Entry) × (owner ≡ Some e) × (a ≡ sender_by d e)
  owner_of None a is = absurd (none-some a is)
  owner_of (Some e) a is = (e, refl, sym (same_Some (sender_by d e) a is))

  pub may_add : (alias : ℕ) (a : AddressParts) (old new : List Sender) → option_map (sender_by d) (owner_entry d alias) ≡ Some a → MayAdd old (Some a) new → MayAddOwner d alias old new
  may_add alias a old new is (inl same) = inl same
  may_add alias a old new is (inr added) =
      let o = owner_of (owner_entry d alias) a is in
      inr (o.0, o.1, added ∙ ap (λ (x : AddressParts). old ++ Some x ∷ []) o.2)

  has_owner : (owner : Option ℕ) (e : Entry) → option_and_then (λ n. slice_get d.aliases n) owner ≡ Some e → is_some owner ≡ true
  has_owner None e is = absurd (none-some e is)
  has_owner (Some n) e is = refl

  -- with an alias comes one sender at most, and none where it has no owner
  pub few_more : (alias : ℕ) (old new : List Sender) → MayAddOwner d alias old new
      → length old ≤ count_by (λ a. is_some (owner_number d a)) (range_with_len 0 alias) + 1 → length new ≤ count_by (λ a. is_some (owner_number d a)) (range_with_len 0 (alias + 1)) + 1
  few_more alias old new (inr added) few =
      let one = counted_yes (λ a. is_some (owner_number d a)) alias _ refl (has_owner (owner_number d alias) added.0 added.1) in
      omega (arith, one, few, ap length added.2, length_push old (Some (sender_by d added.0)))
  few_more alias old new (inl same) few =
      elim (cases_Bool (is_some (owner_number d alias))) [
        | inl owned ↦ omega (arith, counted_yes (λ a. is_some (owner_number d a)) alias _ refl owned, few, ap length same)
        | inr free ↦ omega (arith, counted_no (λ a. is_some (owner_number d a)) alias _ refl free, few, ap length same)
      ]

  get_stays : (alias : ℕ) (old new : List Sender) (k : ℕ) (s : Sender) → MayAddOwner d alias old new → slice_get old k ≡ Some s → slice_get new k ≡ Some s
  get_stays alias old new k s (inl same) at = ap (λ (ss : List Sender). slice_get ss k) same ∙ at
  get_stays alias old new k s (inr added) at = ap (λ (ss : List Sender). slice_get ss k) added.2 ∙ get-append old (Some (sender_by d added.0) ∷ []) k s at

  pub owned_stays : (alias : ℕ) (old new : List Sender) (number : Option ℕ) (owner : Option Entry) → MayAddOwner d alias old new → IsOwnedBy d old number owner → IsOwnedBy d new number owner
  owned_stays alias old new None None m h = tt
  owned_stays alias old new None (Some owner) m h = h
  owned_stays alias old new (Some number) None m h = h
  owned_stays alias old new (Some number) (Some owner) m h = get_stays alias old new number (Some (sender_by d owner)) m h

  pub of_stays : (alias : ℕ) (sender : Sender) (old new : List Sender) → MayAddOwner d alias old new → AreOf d sender old → AreOf d sender new
  of_stays alias sender old new (inl same) h = subst (λ (ss : List Sender). AreOf d sender ss) (sym same) h
  of_stays alias sender old new (inr added) h =
      let last : Sender = Some (sender_by d added.0) in
      let now : AreOf d sender (old ++ last ∷ []) = record {
        first = get-append old (last ∷ []) 0 sender h.first;
        others = λ s a after at. elim (cases_lt s (length old)) [
          | inl below ↦ h.others s a after (slice_get-get_or old s a below ∙ ap (λ (x : Sender). Some x) (sym (get_or_append_left old (last ∷ []) a s below) ∙ get_or_from_slice_get (old ++ last ∷ []) s a a at))
          | inr past ↦
              let within = slice_get_within (old ++ last ∷ []) s a at in
              let here : length old ≡ s = omega (arith, length_push old last) in
              let is : a ≡ last = sym (get_or_from_slice_get (old ++ last ∷ []) s a a at) ∙ get_or_push old last a s here in
              (alias, added.0, added.1, is)
        ];
      } in
      subst (λ (ss : List Sender). AreOf d sender ss) (sym added.2) now

  pub owned_none : (sender : Sender) (senders : List Sender) → senders ≡ sender ∷ [] → AreOwned d sender 0 senders []
  owned_none sender senders is = record {
    senders_are = subst (λ (ss : List Sender). AreOf d sender ss) (sym is) (record { first = refl; others = only });
    few = omega arith;
    owned = λ k below. absurd (omega arith);
  } where
    only : (s : ℕ) (a : Sender) → 0 < s → slice_get (sender ∷ []) s ≡ Some a → IsOwnerSender d a
    only zero a after at = absurd (omega arith)
    only (suc s) a after at = absurd (none-some a at)

  -- where none of the first aliases has an owner, none of them has
  none_counted : (n k : ℕ) → count_by (λ alias. is_some (owner_number d alias)) (range_with_len 0 n) ≡ 0 → k < n → owner_number d k ≡ None
  none_counted zero k none below = absurd (omega arith)
  none_counted (suc n) k none below =
      let p : ℕ → Bool = λ alias. is_some (owner_number d alias) in
      let next : suc n ≡ n + 1 = omega arith in
      let counted : count_by p (range_with_len 0 (n + 1)) ≡ 0 = ap (λ (m : ℕ). count_by p (range_with_len 0 m)) (sym next) ∙ none in
      elim (cases_Bool (p n)) [
        | inl owned ↦ let one = counted_yes p n (count_by p (range_with_len 0 n)) refl owned in absurd (omega arith)
        | inr free ↦
            let fewer : count_by p (range_with_len 0 n) ≡ 0 = counted_no p n (count_by p (range_with_len 0 n)) refl free ∙ counted in
            elim (cases_eq k n) [
              | inl same ↦ ap (owner_number d) same ∙ none_of (owner_number d n) free
              | inr other ↦ none_counted n k fewer (omega arith)
            ]
      ]

  -- where no alias has an owner no number is kept
  pub owned_by_none : (sender : Sender) (n : ℕ) (senders : List Sender) → senders ≡ sender ∷ [] → count_by (λ alias. is_some (owner_number d alias)) (range_with_len 0 n) ≡ 0
      → AreOwned d sender n senders []
  owned_by_none sender n senders is none = record {
    senders_are = (owned_none sender senders is).senders_are;
    few = omega arith;
    owned = λ k below. not_owned senders k (none_counted n k none below);
  }

  pub owned_more : (sender : Sender) (i : ℕ) (old new : List Sender) (owners : List (Option ℕ)) (owner : Option ℕ) → length owners ≡ i → AreOwned d sender i old owners → MayAddOwner d i old new
      → IsOwnedBy d new owner (owner_entry d i) → AreOwned d sender (i + 1) new (owners ++ owner ∷ [])
  owned_more sender i old new owners owner count h m here = record {
    senders_are = of_stays i sender old new m h.senders_are;
    few = omega (arith, length_push owners owner, h.few);
    owned = λ k below. elim (cases_eq k i) [
      | inl same ↦
          let at : get_or (owners ++ owner ∷ []) i None ≡ owner = get_or_push owners owner None i count in
          let now : IsOwnedBy d new (get_or (owners ++ owner ∷ []) i None) (owner_entry d i) = subst (λ (o : Option ℕ). IsOwnedBy d new o (owner_entry d i)) (sym at) here in
          subst (λ (x : ℕ). IsOwnedBy d new (get_or (owners ++ owner ∷ []) x None) (owner_entry d x)) (sym same) now
      | inr other ↦
          let before : k < i = omega arith in
          let at : get_or (owners ++ owner ∷ []) k None ≡ get_or owners k None = get_or_append_left owners (owner ∷ []) None k (omega (arith, count)) in
          subst (λ (o : Option ℕ). IsOwnedBy d new o (owner_entry d k)) (sym at) (owned_stays i old new (get_or owners k None) (owner_entry d k) m (h.owned k before))
    ];
  }
