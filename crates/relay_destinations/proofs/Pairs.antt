-- Texts and their ways as pairs.
use Rattle.std.proofs.Common.{◌≡◌, ℕ, ◌+◌, ◌-◌, ◌<◌, ◌≤◌, suc, Bool, true, false, cond, List, [], ◌∷◌, ◌++◌, length, get_or, refl, sym, ap, ◌∙◌, arith, inl, inr, Ok, Err}
use Rattle.std.specs.Prelude.{◌⊎◌, ◌==◌, ◌≢◌, Option, Some, None, zip, slice_get, AllPairs}
use Rattle.std.specs.List.{position_from}
use Rattle.std.specs.Str.{bytes_eq}
use Rattle.std.proofs.lemmas.Iterator.Adapters.{position_from-zero}
use Rattle.std.proofs.lemmas.Slice.Eq.{bytes_eq-Decides}
use Rattle.std.proofs.lemmas.Option.{get_or_from_slice_get, slice_get_within}
use Rattle.relay_chains.proofs.Places.{number_of-at}
use Rattle.relay_chains.specs.declared.fault.ChainFault.TheVariants.{Full}
use Rattle.relay_chains.specs.Keys.{Insertion, number_of, insertion, insertion_at, Inserts}
use Rattle.relay_destinations.specs.declared.way.Way.{Way}
use Rattle.relay_destinations.specs.declared.way.Way.TheVariants.{To}
use Rattle.relay_destinations.specs.KnownWays.{way_in}

-- ---- pairs from two lists
pub zip_push : (ks : List (List ℕ)) (ts : List Way) (k : List ℕ) (t : Way) → length ts ≡ length ks → zip (ks ++ k ∷ []) (ts ++ t ∷ []) ≡ zip ks ts ++ (k, t) ∷ []
zip_push [] [] k t same = refl
zip_push [] (u ∷ ts) k t same = absurd (omega (arith, same))
zip_push (l ∷ ks) [] k t same = absurd (omega (arith, same))
zip_push (l ∷ ks) (u ∷ ts) k t same = ap (λ (ps : List (List ℕ × Way)). (l, u) ∷ ps) (zip_push ks ts k t (omega (arith, same)))

found_from : (first : ℕ) (ks : List (List ℕ)) (ts : List Way) (q : List ℕ) (n : ℕ) (d : Way) → length ts ≡ length ks → position_from (bytes_eq q) first ks ≡ Some n
    → (first ≤ n) × (n < first + length ks) × (way_in (zip ks ts) q ≡ Some (get_or ts (n - first) d))
found_from first [] ts q n d same h = absurd (let bad : ⊥ = cc in bad)
found_from first (k ∷ ks) [] q n d same h = absurd (omega (arith, same))
found_from first (k ∷ ks) (t ∷ ts) q n d same h = at (bytes_eq q k) (found_from (first + 1) ks ts q n d (omega (arith, same))) h where
  at : (b : Bool)
      → (position_from (bytes_eq q) (first + 1) ks ≡ Some n → (first + 1 ≤ n) × (n < first + 1 + length ks) × (way_in (zip ks ts) q ≡ Some (get_or ts (n - (first + 1)) d)))
      → cond b (Some first) (position_from (bytes_eq q) (first + 1) ks) ≡ Some n
      → (first ≤ n) × (n < first + suc (length ks)) × (cond b (Some t) (way_in (zip ks ts) q) ≡ Some (get_or (t ∷ ts) (n - first) d))
  at true more h =
      let here : first ≡ n = cc in
      let none : n - first ≡ 0 = omega (arith, here) in
      (omega (arith, here), omega (arith, here), rw none refl)
  at false more h =
      let later = more h in
      let next : n - first ≡ suc (n - (first + 1)) = omega (arith, later.0) in
      (omega (arith, later.0), omega (arith, later.1), rw next later.2)

missing_from : (first : ℕ) (ks : List (List ℕ)) (ts : List Way) (q : List ℕ) → position_from (bytes_eq q) first ks ≡ None → way_in (zip ks ts) q ≡ None
missing_from first [] ts q h = refl
missing_from first (k ∷ ks) [] q h = refl
missing_from first (k ∷ ks) (t ∷ ts) q h = at (bytes_eq q k) (missing_from (first + 1) ks ts q) h where
  at : (b : Bool) → (position_from (bytes_eq q) (first + 1) ks ≡ None → way_in (zip ks ts) q ≡ None) → cond b (Some first) (position_from (bytes_eq q) (first + 1) ks) ≡ None
      → cond b (Some t) (way_in (zip ks ts) q) ≡ None
  at true more h = absurd (let bad : ⊥ = cc in bad)
  at false more h = more h

-- A text's way stands at the text's number.
pub pair_found : (ks : List (List ℕ)) (ts : List Way) (q : List ℕ) (n : ℕ) (d : Way) → length ts ≡ length ks → number_of bytes_eq ks q ≡ Some n
    → (n < length ts) × (way_in (zip ks ts) q ≡ Some (get_or ts n d))
pair_found ks ts q n d same has =
    let found = found_from 0 ks ts q n d same (sym (position_from-zero (bytes_eq q) ks) ∙ has) in
    let here : n - 0 ≡ n = omega arith in
    (omega (arith, found.1, same), found.2 ∙ ap (λ (i : ℕ). Some (get_or ts i d)) here)

-- The same of a number under which distinct texts have it.
pub pair_at : (ks : List (List ℕ)) (ts : List Way) (q : List ℕ) (n : ℕ) (d : Way) → length ts ≡ length ks → AllPairs (λ a b. a ≢ b) ks → slice_get ks n ≡ Some q
    → way_in (zip ks ts) q ≡ Some (get_or ts n d)
pair_at ks ts q n d same distinct has =
    let below : n < length ks = slice_get_within ks n q has in
    (pair_found ks ts q n d same (number_of-at bytes_eq bytes_eq-Decides ks q [] distinct n below (get_or_from_slice_get ks n q [] has))).1

pub pair_missing : (ks : List (List ℕ)) (ts : List Way) (q : List ℕ) → number_of bytes_eq ks q ≡ None → way_in (zip ks ts) q ≡ None
pair_missing ks ts q none = missing_from 0 ks ts q (sym (position_from-zero (bytes_eq q) ks) ∙ none)

pub text_new : (ks : List (List ℕ)) (ts : List Way) (q : List ℕ) → length ts ≡ length ks → way_in (zip ks ts) q ≡ None → number_of bytes_eq ks q ≡ None
text_new ks ts q same none = at (number_of bytes_eq ks q) refl where
  at : (o : Option ℕ) → number_of bytes_eq ks q ≡ o → o ≡ None
  at None e = refl
  at (Some n) e = let there = (pair_found ks ts q n (To 0) same e).1 in absurd (let bad : ⊥ = cc in bad)

full_or_last : (ks : List (List ℕ)) (text : List ℕ) (found : ℕ × Bool) (full : Bool)
    → (let refused : Insertion (List ℕ) = record { answer = Err Full; keys = ks } in
    let last : Insertion (List ℕ) = record { answer = Ok (length ks, true); keys = ks ++ text ∷ [] } in
    (cond full refused last).answer ≡ Ok found → (cond full refused last).keys ≡ ks ++ text ∷ [])
full_or_last ks text found true e = absurd (let bad : ⊥ = cc in bad)
full_or_last ks text found false e = refl

-- a new text that is put in goes last
pub texts_more : (ks new : List (List ℕ)) (limit : ℕ) (text : List ℕ) (found : ℕ × Bool) → number_of bytes_eq ks text ≡ None → Inserts (insertion bytes_eq ks limit text) ks (Ok found) new
    → new ≡ ks ++ text ∷ []
texts_more ks new limit text found none put =
    let given : insertion bytes_eq ks limit text ≡ insertion_at bytes_eq None ks limit text = ap (λ (o : Option ℕ). insertion_at bytes_eq o ks limit text) none in
    put.1 ∙ ap (λ (i : Insertion (List ℕ)). i.keys) given ∙ full_or_last ks text found (length ks == limit) (sym (ap (λ (i : Insertion (List ℕ)). i.answer) given) ∙ put.0)

-- ---- one pair more
-- a text's way is that of the pairs before, or this pair's
pub pair_cases : (ps : List (List ℕ × Way)) (k : List ℕ) (t : Way) (q : List ℕ) (s : Way) → way_in (ps ++ (k, t) ∷ []) q ≡ Some s → (way_in ps q ≡ Some s) ⊎ ((q ≡ k) × (t ≡ s))
pair_cases [] k t q s h = at (bytes_eq q k) refl h where
  at : (b : Bool) → bytes_eq q k ≡ b → cond b (Some t) None ≡ Some s → (way_in [] q ≡ Some s) ⊎ ((q ≡ k) × (t ≡ s))
  at true e h = inr ((bytes_eq-Decides q k).0 e, (let is : t ≡ s = cc in is))
  at false e h = absurd (let bad : ⊥ = cc in bad)
pair_cases (p ∷ ps) k t q s h = at (bytes_eq q p.0) (pair_cases ps k t q s) h where
  at : (b : Bool) → (way_in (ps ++ (k, t) ∷ []) q ≡ Some s → (way_in ps q ≡ Some s) ⊎ ((q ≡ k) × (t ≡ s))) → cond b (Some p.1) (way_in (ps ++ (k, t) ∷ []) q) ≡ Some s
      → (cond b (Some p.1) (way_in ps q) ≡ Some s) ⊎ ((q ≡ k) × (t ≡ s))
  at true more h = inl h
  at false more h = more h

pub pair_kept : (ps : List (List ℕ × Way)) (k : List ℕ) (t : Way) (q : List ℕ) (s : Way) → way_in ps q ≡ Some s → way_in (ps ++ (k, t) ∷ []) q ≡ Some s
pair_kept [] k t q s h = absurd (let bad : ⊥ = cc in bad)
pair_kept (p ∷ ps) k t q s h = at (bytes_eq q p.0) (pair_kept ps k t q s) h where
  at : (b : Bool) → (way_in ps q ≡ Some s → way_in (ps ++ (k, t) ∷ []) q ≡ Some s) → cond b (Some p.1) (way_in ps q) ≡ Some s
      → cond b (Some p.1) (way_in (ps ++ (k, t) ∷ []) q) ≡ Some s
  at true more h = h
  at false more h = more h

pub pair_last : (ps : List (List ℕ × Way)) (k : List ℕ) (t : Way) → way_in ps k ≡ None → way_in (ps ++ (k, t) ∷ []) k ≡ Some t
pair_last [] k t none = rw ((bytes_eq-Decides k k).1 refl) refl
pair_last (p ∷ ps) k t none = at (bytes_eq k p.0) (pair_last ps k t) none where
  at : (b : Bool) → (way_in ps k ≡ None → way_in (ps ++ (k, t) ∷ []) k ≡ Some t) → cond b (Some p.1) (way_in ps k) ≡ None
      → cond b (Some p.1) (way_in (ps ++ (k, t) ∷ []) k) ≡ Some t
  at true more h = absurd (let bad : ⊥ = cc in bad)
  at false more h = more h
