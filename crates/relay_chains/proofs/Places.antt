-- Lemmas on the place of a key in a list of distinct keys.
use Rattle.std.proofs.Common.{◌≡◌, ◌≢◌, ℕ, ◌<◌, Bool, true, false, Option, Some, None, Ok, Err, List, [], ◌∷◌, ◌++◌, length, map, get_or, slice_get, not, sym, refl, ap, ◌∙◌, ⊎_elim, arith, eq-eqb}
use Rattle.std.specs.Prelude.{AllPairs, IfSome, option_map, position, unwrap_or}
use Rattle.std.specs.Bool.{Decides}
use Rattle.std.specs.List.{position_or_len}
use Rattle.std.proofs.lemmas.Bool.{ne_eqb, cond-true, cond-false, lt-ltb, le-ltb, cases_lt, not-true, false_from_ne_true, both_ways}
use Rattle.std.proofs.lemmas.Option.{none-some, same_Some, slice_get-get_or}
use Rattle.std.proofs.lemmas.List.{get_or-map, length-map}
use Rattle.std.proofs.lemmas.List.Sums.{position_or_len_is, prefix_len_passes}
use Rattle.std.proofs.lemmas.List.Quantifiers.{all_pairs_push}
use Rattle.relay_chains.specs.declared.fault.ChainFault.TheVariants.{Full}
use Rattle.relay_chains.specs.Keys.{number_of, insertion_at, insertion}

-- where no element passes, there is no place
position-none : {X : Type 0} (p : X → Bool) (xs : List X) (d : X) → ((k : ℕ) → k < length xs → p (get_or xs k d) ≡ false)
    → position p xs ≡ None
position-none p xs d none =
    let past = position_or_len_is p xs (length xs) d (omega arith) none (λ below. absurd (omega arith)) in
    cond-false _ _ _ (le-ltb (position_or_len p xs) (length xs) (omega arith))

-- the first element that passes stands at the place
position-at : {X : Type 0} (p : X → Bool) (xs : List X) (i : ℕ) (d : X) → i < length xs → ((k : ℕ) → k < i → p (get_or xs k d) ≡ false)
    → p (get_or xs i d) ≡ true → position p xs ≡ Some i
position-at p xs i d below before here =
    let place = position_or_len_is p xs i d (omega arith) before (λ _. here) in
    cond-true _ _ _ (lt-ltb (position_or_len p xs) (length xs) (omega arith)) ∙ ap Some place

-- where there is no place, no element passes
position-fails : {X : Type 0} (p : X → Bool) (xs : List X) (d : X) → position p xs ≡ None → (k : ℕ) → k < length xs → p (get_or xs k d) ≡ false
position-fails p xs d none k below =
    ⊎_elim
    (λ within. absurd (none-some (position_or_len p xs) (sym none ∙ cond-true _ _ _ (lt-ltb _ _ within))))
    (λ past. not-true _ (prefix_len_passes (λ x. not (p x)) xs k d (omega arith)))
    (cases_lt (position_or_len p xs) (length xs))

-- a key that stands nowhere has no number
pub number_of-none : {X : Type 0} (same : X → X → Bool) → ((a b : X) → Decides (same a b) (a ≡ b)) → (keys : List X) (key d : X)
    → ((k : ℕ) → k < length keys → get_or keys k d ≡ key → ⊥) → number_of same keys key ≡ None
number_of-none same decides keys key d other =
    position-none (same key) keys d (λ k below. false_from_ne_true _ (λ t. other k below (sym ((decides key (get_or keys k d)).0 t))))

-- among distinct keys, the number of a key is where it stands
pub number_of-at : {X : Type 0} (same : X → X → Bool) → ((a b : X) → Decides (same a b) (a ≡ b)) → (keys : List X) (key d : X)
    → AllPairs (λ a b. a ≢ b) keys → (number : ℕ) → number < length keys → get_or keys number d ≡ key → number_of same keys key ≡ Some number
number_of-at same decides keys key d distinct number below here =
    position-at (same key) keys number d below
    (λ k before. false_from_ne_true _ (λ t. distinct k number d before below (sym ((decides key (get_or keys k d)).0 t) ∙ sym here)))
    ((decides key (get_or keys number d)).1 (sym here))

-- among distinct keys, where the last number that has the key's hash and is the key's is told, it's the key's only one
pub number_of-last : {X : Type 0} (same : X → X → Bool) → ((a b : X) → Decides (same a b) (a ≡ b)) → (keys : List X) (key d : X) (h : X → ℕ) (found : Option ℕ)
    → AllPairs (λ a b. a ≢ b) keys
    → IfSome found (λ k. (k < length (map h keys)) × (get_or (map h keys) k 0 ≡ h key) × (true ≡ same key (get_or keys k d)))
    → ((k : ℕ) → IfSome found (λ n. n < k) → k < length (map h keys) → get_or (map h keys) k 0 ≡ h key → false ≡ same key (get_or keys k d))
    → found ≡ number_of same keys key
number_of-last same decides keys key d h None distinct found after =
    sym (number_of-none same decides keys key d (λ k below here.
    both_ways _ (sym (after k tt (omega (arith, length-map keys h)) (get_or-map h keys k d 0 below ∙ ap h here))) ((decides key (get_or keys k d)).1 (sym here))))
number_of-last same decides keys key d h (Some n) distinct found after =
    sym (number_of-at same decides keys key d distinct n (omega (arith, found.0, length-map keys h)) (sym ((decides key (get_or keys n d)).0 (sym found.2))))

-- a key that has no number keeps the keys distinct
pub distinct-push : {X : Type 0} (same : X → X → Bool) → ((a b : X) → Decides (same a b) (a ≡ b)) → (keys : List X) (key : X)
    → AllPairs (λ a b. a ≢ b) keys → number_of same keys key ≡ None → AllPairs (λ a b. a ≢ b) (keys ++ key ∷ [])
distinct-push same decides keys key distinct new =
    all_pairs_push (λ a b. a ≢ b) keys key distinct
    (λ k d below e. both_ways _ (position-fails (same key) keys d new k below) ((decides key (get_or keys k d)).1 (sym e)))

-- a new key below the limit goes last
pub inserts-new : {X : Type 0} (same : X → X → Bool) (keys : List X) (limit : ℕ) (key : X) (number : ℕ) (new : List X)
    → number_of same keys key ≡ None → number ≡ length keys → (number ≡ limit → ⊥) → new ≡ keys ++ key ∷ []
    → ((insertion same keys limit key).answer ≡ Ok (number, true)) × (new ≡ (insertion same keys limit key).keys)
inserts-new same keys limit key number new none count room is =
    let given = ap (λ (place : Option ℕ). insertion_at same place keys limit key) none
    ∙ cond-false _ _ _ (ne_eqb (length keys) limit (λ full. room (count ∙ full))) in
    (ap (λ i. i.answer) given ∙ ap (λ (n : ℕ). Ok (n, true)) (sym count), is ∙ sym (ap (λ i. i.keys) given))

-- a new key at the limit is refused
pub inserts-full : {X : Type 0} (same : X → X → Bool) (keys : List X) (limit : ℕ) (key : X) → number_of same keys key ≡ None → length keys ≡ limit
    → ((insertion same keys limit key).answer ≡ Err Full) × (keys ≡ keys)
inserts-full same keys limit key none full =
    let given = ap (λ (place : Option ℕ). insertion_at same place keys limit key) none ∙ cond-true _ _ _ (eq-eqb (length keys) limit full) in
    (ap (λ i. i.answer) given, refl)

-- what a test of the element of a number tells
told : {X : Type 0} (p : X → Bool) (xs : List X) (d : X) (k : ℕ) (b : Bool) → k < length xs → option_map p (slice_get xs k) ≡ Some b → b ≡ p (get_or xs k d)
told p xs d k b below tells = sym (same_Some (p (get_or xs k d)) b (ap (option_map p) (sym (slice_get-get_or xs k d below)) ∙ tells))

-- the next, with an element to stand where there is none
position-found : {X : Type 0} (p : X → Bool) (xs : List X) (d : X) (h : X → ℕ) (hash : ℕ) (found : Option ℕ) → ((x : X) → p x ≡ true → h x ≡ hash)
    → IfSome found (λ k. (k < length (map h xs)) × (get_or (map h xs) k 0 ≡ hash) × (option_map p (slice_get xs k) ≡ Some true))
    → ((k : ℕ) → k < unwrap_or found (length (map h xs)) → get_or (map h xs) k 0 ≡ hash → option_map p (slice_get xs k) ≡ Some false)
    → found ≡ position p xs
position-found p xs d h hash None alike found before =
    sym (position-none p xs d (λ k below. false_from_ne_true _ (λ t.
    both_ways _ (sym (told p xs d k false below (before k (omega (arith, length-map xs h)) (get_or-map h xs k d 0 below ∙ alike _ t)))) t)))
position-found p xs d h hash (Some n) alike found before =
    let within : n < length xs = omega (arith, found.0, length-map xs h) in
    sym (position-at p xs n d within
    (λ k below. false_from_ne_true _ (λ t. both_ways _ (sym (told p xs d k false (omega arith) (before k below (get_or-map h xs k d 0 (omega arith) ∙ alike _ t)))) t))
    (sym (told p xs d n true within found.2)))

-- where the first number whose hash agrees and that passes is told, it's the place of the first element that passes
pub position-tested : {X : Type 0} (p : X → Bool) (xs : List X) (h : X → ℕ) (hash : ℕ) (found : Option ℕ) → ((x : X) → p x ≡ true → h x ≡ hash)
    → IfSome found (λ k. (k < length (map h xs)) × (get_or (map h xs) k 0 ≡ hash) × (option_map p (slice_get xs k) ≡ Some true))
    → ((k : ℕ) → k < unwrap_or found (length (map h xs)) → get_or (map h xs) k 0 ≡ hash → option_map p (slice_get xs k) ≡ Some false)
    → found ≡ position p xs
position-tested p [] h hash None alike found before = refl
position-tested p [] h hash (Some n) alike found before = absurd (omega (arith, found.0))
position-tested p (x ∷ xs) h hash found alike tells before = position-found p (x ∷ xs) x h hash found alike tells before
