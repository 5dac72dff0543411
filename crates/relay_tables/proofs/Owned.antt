-- Lemmas on the owners of entries.
use Rattle.std.proofs.Common.{◌≡◌, ℕ, suc, ◌+◌, ◌<◌, ◌≤◌, Bool, true, false, cond, ltb, leb, eqb, ◌&&◌, Option, Some, None, List, [], ◌∷◌, ◌++◌, length, get_or, slice_get, set, take, drop, map, refl, sym, ap, ◌∙◌, inl, inr, ⊎_elim, arith}
use Rattle.std.specs.Prelude.{codes, not, position, IfSome, option_and_then}
use Rattle.std.specs.Option.{option_or}
use Rattle.std.specs.List.{position_or_len}
use Rattle.std.specs.Str.{bytes_eq}
use Rattle.std.proofs.lemmas.Bool.{cases_Bool, cases_lt, le-leb, leb-true, and_parts, and_from, false_from_ne_true, both_ways, false≢true}
use Rattle.std.proofs.lemmas.List.{drop_at, length_push, length-set, length-map, length-take-le, take_all, take_more, get_or-map, get_or-set_same, get_or-set_other, ext_get_or}
use Rattle.std.proofs.lemmas.List.Elements.{All-get_or}
use Rattle.std.proofs.lemmas.List.Sums.{prefix_len-le-length}
use Rattle.std.proofs.lemmas.List.Folds.{position_or_len_push}
use Rattle.std.proofs.lemmas.Option.{same_Some, slice_get_cases, slice_get_within, get_or_from_slice_get}
use Rattle.std.proofs.lemmas.Slice.Eq.{bytes_eq-Decides}
use Rattle.relay_aliasfile.specs.declared.entry.Entry.{Entry}
use Rattle.relay_chains.specs.TextHash.{text_hash}
use Rattle.relay_tables.specs.Indices.{name_hash}
use Rattle.relay_tables.specs.Tables.{owner_place, AreOwners}
use Rattle.relay_tables.specs.Owning.{owner_or}
use Rattle.relay_tables.proofs.Resolving.{mapped_at}

-- a place and a count, with one more behind
pushed : (b : Bool) (new old long short : ℕ) → new ≡ cond (eqb old short) (short + cond b 0 1) old → long ≡ suc short → old ≤ short
    → cond (ltb new long) (Some new) None ≡ owner_or b (cond (ltb old short) (Some old) None) short
pushed true new old long short e is most = grind arith
pushed false new old long short e is most = grind arith

-- the place of the first that passes, with one more behind
position_push : {X : Type 0} (p : X → Bool) (xs : List X) (y : X) → position p (xs ++ y ∷ []) ≡ owner_or (p y) (position p xs) (length xs)
position_push p xs y =
    pushed (p y) (position_or_len p (xs ++ y ∷ [])) (position_or_len p xs) (length (xs ++ y ∷ [])) (length xs) (position_or_len_push p xs y) (omega (arith, length_push xs y)) (prefix_len-le-length (λ x. not (p x)) xs)

-- an entry's owner, with one more entry that may be it
pub owner_push : (entries : List Entry) (o e : Entry) → owner_place (entries ++ o ∷ []) e ≡ owner_or (bytes_eq (codes "owner-" ++ e.name) o.name) (owner_place entries e) (length entries)
owner_push entries o e = position_push (λ (x : Entry). bytes_eq (codes "owner-" ++ e.name) x.name) entries o

-- it is the owner of the name that stands behind its prefix
pub owned_by : (name owned x : List ℕ) → name ≡ codes "owner-" ++ owned → bytes_eq (codes "owner-" ++ x) name ≡ bytes_eq owned x
owned_by name owned x is =
    elim (cases_Bool (bytes_eq owned x)) [
      | inl same ↦
          let e : owned ≡ x = (bytes_eq-Decides owned x).0 same in
          (bytes_eq-Decides (codes "owner-" ++ x) name).1 (ap (λ (t : List ℕ). codes "owner-" ++ t) (sym e) ∙ sym is) ∙ sym same
      | inr other ↦
          false_from_ne_true (bytes_eq (codes "owner-" ++ x) name) (λ t.
          let e : codes "owner-" ++ owned ≡ codes "owner-" ++ x = sym is ∙ sym ((bytes_eq-Decides (codes "owner-" ++ x) name).0 t) in
          let same : owned ≡ x = sym (drop_at (codes "owner-") owned 6 refl) ∙ ap (drop 6) e ∙ drop_at (codes "owner-") x 6 refl in
          both_ways (bytes_eq owned x) other ((bytes_eq-Decides owned x).1 same))
          ∙ sym other
    ]

-- and without the prefix of none
pub owned_by_none : (name x : List ℕ) → ((owned : List ℕ) → name ≡ codes "owner-" ++ owned → ⊥) → bytes_eq (codes "owner-" ++ x) name ≡ false
owned_by_none name x none = false_from_ne_true (bytes_eq (codes "owner-" ++ x) name) (λ t. none x (sym ((bytes_eq-Decides (codes "owner-" ++ x) name).0 t)))

-- The owners after one is given to the entries of a name below a place.
pub record AreGiven (entries : List Entry) (name : List ℕ) (owner next : ℕ) (old new : List (Option ℕ)) : Type 0 where
  pub count : length new ≡ length old
  pub given : (k : ℕ) (e : Entry) → slice_get entries k ≡ Some e → k < next → get_or new k None ≡ owner_or (bytes_eq name e.name) (get_or old k None) owner
  pub left : (k : ℕ) → next ≤ k → get_or new k None ≡ get_or old k None

or_owner : (found : Option ℕ) (owner : ℕ) → option_or found (Some owner) ≡ owner_or true found owner
or_owner None owner = refl
or_owner (Some first) owner = refl

not_owned : (b : Bool) (found : Option ℕ) (owner : ℕ) → b ≡ false → found ≡ owner_or b found owner
not_owned true found owner e = absurd (false≢true (sym e))
not_owned false found owner e = refl

owned_one : (b : Bool) (found : Option ℕ) (owner : ℕ) → b ≡ true → owner_or true found owner ≡ owner_or b found owner
owned_one true found owner e = refl
owned_one false found owner e = absurd (false≢true e)

-- no entry of the name from a place on
abbrev NoneBetween : List Entry → List ℕ → ℕ → ℕ → Type 0
NoneBetween entries name next end = (k : ℕ) (e : Entry) → next ≤ k → k < end → slice_get entries k ≡ Some e → bytes_eq name e.name ≡ false

pub given_before : (entries : List Entry) (name : List ℕ) (owner next end : ℕ) (old new : List (Option ℕ)) → AreGiven entries name owner next old new
    → NoneBetween entries name next end → (k : ℕ) (e : Entry) → slice_get entries k ≡ Some e → k < end → get_or new k None ≡ owner_or (bytes_eq name e.name) (get_or old k None) owner
given_before entries name owner next end old new p none k e here below =
    ⊎_elim (λ early. p.given k e here early)
    (λ late. p.left k (omega arith) ∙ not_owned (bytes_eq name e.name) (get_or old k None) owner (none k e (omega arith) below here))
    (cases_lt k next)

-- one more entry of the name
pub given_more : (entries : List Entry) (name : List ℕ) (owner next place : ℕ) (entry : Entry) (old new : List (Option ℕ)) → AreGiven entries name owner next old new
    → NoneBetween entries name next place → next ≤ place → place < length new → slice_get entries place ≡ Some entry → bytes_eq name entry.name ≡ true
    → AreGiven entries name owner (place + 1) old (set new place (option_or (get_or new place None) (Some owner)))
given_more entries name owner next place entry old new p none from below here same =
    let value : Option ℕ = option_or (get_or new place None) (Some owner) in
    record {
      count = length-set new place value ∙ p.count;
      given = λ k e at upto. ⊎_elim
          (λ early. get_or-set_other new place k value None (λ i. omega arith) ∙ given_before entries name owner next place old new p none k e at early)
          (λ late.
          let is : k ≡ place = omega arith in
          let first : get_or (set new place value) k None ≡ value = ap (λ (i : ℕ). get_or (set new place value) i None) is ∙ get_or-set_same new place value None below in
          let entry_is : entry ≡ e = same_Some entry e (sym here ∙ ap (slice_get entries) (sym is) ∙ at) in
          let named : bytes_eq name e.name ≡ true = ap (λ (x : Entry). bytes_eq name x.name) (sym entry_is) ∙ same in
          let before : get_or new place None ≡ get_or old k None = p.left place from ∙ ap (λ (i : ℕ). get_or old i None) (sym is) in
          first ∙ or_owner (get_or new place None) owner ∙ ap (λ (o : Option ℕ). owner_or true o owner) before ∙ owned_one (bytes_eq name e.name) (get_or old k None) owner named)
          (cases_lt k place);
      left = λ k after. get_or-set_other new place k value None (λ i. omega arith) ∙ p.left k (omega arith);
    }

-- Each entry has the first owner among so many entries.
pub record AreOwnedAmong (entries : List Entry) (number : ℕ) (owners : List (Option ℕ)) : Type 0 where
  pub count : length owners ≡ length entries
  pub owned : (k : ℕ) (e : Entry) → slice_get entries k ≡ Some e → get_or owners k None ≡ owner_place (take number entries) e

one_among : (entries : List Entry) (number : ℕ) (o e : Entry) → number < length entries → get_or entries number o ≡ o
    → owner_place (take (number + 1) entries) e ≡ owner_or (bytes_eq (codes "owner-" ++ e.name) o.name) (owner_place (take number entries) e) number
one_among entries number o e below here =
    ap (λ (es : List Entry). owner_place es e) (take_more entries number o below ∙ ap (λ (x : Entry). take number entries ++ x ∷ []) here)
    ∙ owner_push (take number entries) o e
    ∙ ap (owner_or (bytes_eq (codes "owner-" ++ e.name) o.name) (owner_place (take number entries) e)) (length-take-le number entries (omega arith))

-- an entry that is an owner's
pub owned_more : (entries : List Entry) (number : ℕ) (o : Entry) (name : List ℕ) (old new : List (Option ℕ)) → number < length entries → get_or entries number o ≡ o
    → o.name ≡ codes "owner-" ++ name → AreOwnedAmong entries number old → length new ≡ length old
    → ((k : ℕ) (e : Entry) → slice_get entries k ≡ Some e → get_or new k None ≡ owner_or (bytes_eq name e.name) (get_or old k None) number)
    → AreOwnedAmong entries (number + 1) new
owned_more entries number o name old new below here is p count given = record {
  count = count ∙ p.count;
  owned = λ k e at.
      given k e at
      ∙ ap (λ (b : Bool). owner_or b (get_or old k None) number) (sym (owned_by o.name name e.name is))
      ∙ ap (λ (found : Option ℕ). owner_or (bytes_eq (codes "owner-" ++ e.name) o.name) found number) (p.owned k e at)
      ∙ sym (one_among entries number o e below here);
}

-- an entry that is none
pub owned_same : (entries : List Entry) (number : ℕ) (o : Entry) (owners : List (Option ℕ)) → number < length entries → get_or entries number o ≡ o
    → ((owned : List ℕ) → o.name ≡ codes "owner-" ++ owned → ⊥) → AreOwnedAmong entries number owners → AreOwnedAmong entries (number + 1) owners
owned_same entries number o owners below here none p = record {
  count = p.count;
  owned = λ k e at.
      p.owned k e at
      ∙ not_owned (bytes_eq (codes "owner-" ++ e.name) o.name) (owner_place (take number entries) e) number (owned_by_none o.name e.name none)
      ∙ sym (one_among entries number o e below here);
}

pub owned_all : (entries : List Entry) (owners : List (Option ℕ)) → AreOwnedAmong entries (length entries) owners → owners ≡ map (owner_place entries) entries
owned_all entries owners p =
    ext_get_or None owners (map (owner_place entries) entries) (p.count ∙ sym (length-map entries (owner_place entries))) (λ k below.
    ⊎_elim
    (λ at. p.owned k at.0 at.2 ∙ ap (λ (es : List Entry). owner_place es at.0) (take_all (length entries) entries (omega arith)) ∙ sym (get_or-map (owner_place entries) entries k at.0 None at.1 ∙ ap (owner_place entries) at.3))
    (λ past. absurd (omega (arith, p.count, past.0)))
    (slice_get_cases entries k).1)

-- the owner at an entry's place
pub owner_found : (entries : List Entry) (found : List (Option ℕ)) (k : ℕ) → AreOwners entries found → k < length entries
    → get_or found k None ≡ option_and_then (owner_place entries) (slice_get entries k)
owner_found entries found k (inl each) below =
    ap (λ (os : List (Option ℕ)). get_or os k None) each
    ∙ mapped_at (owner_place entries) entries k None below
owner_found entries found k (inr none) below =
    ⊎_elim
    (λ at.
    ap (λ (os : List (Option ℕ)). get_or os k None) none.0
    ∙ sym (All-get_or (λ e. owner_place entries e ≡ None) entries k at.0 below none.1)
    ∙ sym (get_or-map (owner_place entries) entries k at.0 None below)
    ∙ mapped_at (owner_place entries) entries k None below)
    (λ past. absurd (omega (arith, past.0)))
    (slice_get_cases entries k).1

test_parts : (start k : ℕ) (b : Bool) → true ≡ (leb start k && b) → (start ≤ k) × (b ≡ true)
test_parts start k b e = let p = and_parts (leb start k) b (sym e) in (leb-true start k p.0, p.1)

-- what a look-up under a hash finds from a place on
pub named_found : (entries : List Entry) (links name : List ℕ) (hash start : ℕ) (found : Option ℕ) → length links ≡ length entries
    → IfSome found (λ k. (k < length links) × (get_or links k 0 ≡ hash) × ((e : Entry) → slice_get entries k ≡ Some e → true ≡ (leb start k && bytes_eq name e.name)))
    → IfSome found (λ k. (start ≤ k) × (e : Entry) × (slice_get entries k ≡ Some e) × (bytes_eq name e.name ≡ true))
named_found entries links name hash start None count h = tt
named_found entries links name hash start (Some k) count h =
    ⊎_elim
    (λ at. let p = test_parts start k (bytes_eq name at.0.name) (h.2 at.0 at.2) in (p.0, at.0, at.2, p.1))
    (λ past. absurd (omega (arith, count, h.0, past.0)))
    (slice_get_cases entries k).1

-- and what it passes
pub named_before : (entries : List Entry) (links name : List ℕ) (key hash start end k : ℕ) (e : Entry) → links ≡ map (name_hash key) entries → hash ≡ text_hash key name
    → ((i : ℕ) → i < end → get_or links i 0 ≡ hash → (x : Entry) → slice_get entries i ≡ Some x → false ≡ (leb start i && bytes_eq name x.name))
    → start ≤ k → k < end → slice_get entries k ≡ Some e → bytes_eq name e.name ≡ false
named_before entries links name key hash start end k e hashed hash_is before from below here =
    false_from_ne_true (bytes_eq name e.name) (λ same.
    let there : get_or links k 0 ≡ hash =
    ap (λ (hs : List ℕ). get_or hs k 0) hashed ∙ get_or-map (name_hash key) entries k e 0 (slice_get_within entries k e here)
    ∙ ap (name_hash key) (get_or_from_slice_get entries k e e here) ∙ ap (text_hash key) (sym ((bytes_eq-Decides name e.name).0 same)) ∙ sym hash_is in
    both_ways (leb start k && bytes_eq name e.name) (sym (before k below there e here)) (and_from (leb start k) (bytes_eq name e.name) (le-leb start k from) same))
