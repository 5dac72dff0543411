-- Where the pattern of an entry stands before it, by the hashes of patterns.
use Rattle.std.proofs.Common.{◌≡◌, ℕ, ◌+◌, ◌<◌, ◌≤◌, Bool, true, false, Option, Some, None, List, [], ◌∷◌, length, map, take, get_or, slice_get, sym, ap, ◌∙◌, subst, ⊎_elim, arith}
use Rattle.std.specs.Prelude.{IfSome, option_map, is_some, unwrap_or}
use Rattle.std.specs.Str.{bytes_eq}
use Rattle.std.proofs.lemmas.Bool.{cases_lt}
use Rattle.std.proofs.lemmas.Option.{same_Some, slice_get-get_or, get_or_from_slice_get, slice_get_within}
use Rattle.std.proofs.lemmas.List.{get_or-take, get_or-map, take-map, length-take-le, length-map, take_more}
use Rattle.std.proofs.lemmas.Slice.Eq.{bytes_eq-Decides}
use Rattle.relay_chains.specs.TextHash.{text_hash}
use Rattle.relay_chains.specs.Links.{last_under}
use Rattle.relay_chains.proofs.Places.{position-tested}
use Rattle.relay_chains.proofs.Under.{last_under_le, after_last_under}
use Rattle.relay_routes.specs.declared.transport_line.TransportLine.{TransportLine}
use Rattle.relay_routes.specs.TableSteps.{has_entry, pattern_hash, AreNew}
use Rattle.relay_routes.proofs.TableFacts.{entry_place, entry_there, new_more}

-- the element of a place, among so many that it's one of them
slice_get-front : {X : Type 0} (n : ℕ) (xs : List X) (d : X) (k : ℕ) → k < n → n ≤ length xs → slice_get (take n xs) k ≡ slice_get xs k
slice_get-front n xs d k below within =
    slice_get-get_or (take n xs) k d (omega (arith, length-take-le n xs within)) ∙ ap (λ x. Some x) (get_or-take n xs k d below) ∙ sym (slice_get-get_or xs k d (omega arith))

-- entries of the same pattern have the same hash
pub alike : (key : ℕ) (pattern : List ℕ) (e : TransportLine) → bytes_eq pattern e.pattern ≡ true → pattern_hash key e ≡ text_hash key pattern
alike key pattern e same = ap (text_hash key) (sym ((bytes_eq-Decides pattern e.pattern).0 same))

-- The pattern of the entry at a place stands before it where a search below the last number under its hash finds it.
module _ (key : ℕ) (es : List TransportLine) (e : TransportLine) (n : ℕ) (here : slice_get es n ≡ Some e) where
  abbrev hashes : List ℕ
  hashes = map (pattern_hash key) es

  abbrev hash : ℕ
  hash = text_hash key e.pattern

  abbrev is_alike : TransportLine → Bool
  is_alike x = bytes_eq e.pattern x.pattern

  within : n < length es
  within = slice_get_within es n e here

  pub hash_here : get_or hashes n 0 ≡ hash
  hash_here = get_or-map (pattern_hash key) es n e 0 within ∙ ap (pattern_hash key) (get_or_from_slice_get es n e e here)

  front_hash : (k : ℕ) → k < n → get_or (map (pattern_hash key) (take n es)) k 0 ≡ get_or hashes k 0
  front_hash k below = ap (λ (hs : List ℕ). get_or hs k 0) (sym (take-map (pattern_hash key) n es)) ∙ get_or-take n hashes k 0 below

  front_count : length (map (pattern_hash key) (take n es)) ≡ n
  front_count = length-map (take n es) (pattern_hash key) ∙ length-take-le n es (omega (arith, within))

  pub repeat_told : (word : ℕ) → word ≡ last_under hashes hash n → (found : Option ℕ)
      → IfSome found (λ k. (k < word) × (get_or hashes k 0 ≡ hash) × (option_map is_alike (slice_get es k) ≡ Some true))
      → ((k : ℕ) → k < unwrap_or found word → get_or hashes k 0 ≡ hash → option_map is_alike (slice_get es k) ≡ Some false)
      → has_entry (take n es) e.pattern ≡ is_some found
  repeat_told word last found told before = entry_there (take n es) e.pattern found (sym (place found told before)) where
    low : word ≤ n
    low = omega (arith, last, last_under_le hashes hash n)

    front : (k : ℕ) → k < n → slice_get (take n es) k ≡ slice_get es k
    front k below = slice_get-front n es e k below (omega (arith, within))

    place : (found : Option ℕ)
        → IfSome found (λ k. (k < word) × (get_or hashes k 0 ≡ hash) × (option_map is_alike (slice_get es k) ≡ Some true))
        → ((k : ℕ) → k < unwrap_or found word → get_or hashes k 0 ≡ hash → option_map is_alike (slice_get es k) ≡ Some false)
        → found ≡ entry_place (take n es) e.pattern
    place None told before =
        position-tested is_alike (take n es) (pattern_hash key) hash None (alike key e.pattern) tt
        (λ k below same.
        let under : k < n = omega (arith, below, front_count) in
        let is : get_or hashes k 0 ≡ hash = sym (front_hash k under) ∙ same in
        ap (option_map is_alike) (front k under)
        ∙ ⊎_elim (λ low. before k low is) (λ high. absurd (after_last_under hashes hash n k (omega (arith, last, high)) under is)) (cases_lt k word))
    place (Some m) told before =
        let under : m < n = omega (arith, told.0, low) in
        position-tested is_alike (take n es) (pattern_hash key) hash (Some m) (alike key e.pattern)
        (omega (arith, under, front_count), front_hash m under ∙ told.1, ap (option_map is_alike) (front m under) ∙ told.2)
        (λ k below same.
        let low : k < n = omega (arith, below, under) in
        ap (option_map is_alike) (front k low) ∙ before k below (sym (front_hash k low) ∙ same))

  -- the same as the test of the entry at the place
  pub told_here : (b : Bool) → has_entry (take n es) e.pattern ≡ b → option_map (λ (x : TransportLine). has_entry (take n es) x.pattern) (slice_get es n) ≡ Some b
  told_here b is = ap (option_map (λ (x : TransportLine). has_entry (take n es) x.pattern)) here ∙ ap (λ b. Some b) is

-- One more entry is new where its pattern doesn't stand before it.
pub new_next : (es : List TransportLine) (n : ℕ) → n < length es → AreNew [] (take n es) → option_map (λ (e : TransportLine). has_entry (take n es) e.pattern) (slice_get es n) ≡ Some false
    → AreNew [] (take (n + 1) es)
new_next [] n below new told = absurd (omega (arith, below))
new_next (d ∷ es) n below new told =
    let all : List TransportLine = d ∷ es in
    let e : TransportLine = get_or all n d in
    let fresh : has_entry (take n all) e.pattern ≡ false = same_Some _ _ (ap (option_map (λ (e : TransportLine). has_entry (take n all) e.pattern)) (sym (slice_get-get_or all n d below)) ∙ told) in
    subst (AreNew []) (sym (take_more all n d below)) (new_more [] (take n all) e new fresh)

-- Where no word stands under its hash, it's new.
pub none_told : (key : ℕ) (es : List TransportLine) (n : ℕ) → n < length es → 0 ≡ last_under (map (pattern_hash key) es) (get_or (map (pattern_hash key) es) n 0) n
    → option_map (λ (e : TransportLine). has_entry (take n es) e.pattern) (slice_get es n) ≡ Some false
none_told key [] n below last = absurd (omega (arith, below))
none_told key (d ∷ es) n below last =
    let all : List TransportLine = d ∷ es in
    let e : TransportLine = get_or all n d in
    let here : slice_get all n ≡ Some e = slice_get-get_or all n d below in
    let hashes : List ℕ = map (pattern_hash key) all in
    let least : 0 ≡ last_under hashes (text_hash key e.pattern) n = last ∙ ap (λ (hash : ℕ). last_under hashes hash n) (hash_here key all e n here) in
    told_here key all e n here false (repeat_told key all e n here 0 least None tt (λ k low same. absurd (omega (arith, low))))
