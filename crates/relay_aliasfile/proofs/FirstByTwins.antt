-- Where each of many texts stands first, from the texts whose hashes come again.
use Rattle.std.proofs.Common.{◌≡◌, ◌⊎◌, ℕ, zero, suc, ◌+◌, ◌<◌, ◌≤◌, Bool, true, false, List, [], ◌∷◌, ◌++◌, length, map, set, get_or, refl, sym, ap, ◌∙◌, subst, arith, inl, inr, length-set}
use Rattle.std.specs.Prelude.{All, AllPairs, Contains}
use Rattle.std.specs.List.{range_with_len}
use Rattle.std.specs.Str.{bytes_eq}
use Rattle.std.proofs.lemmas.Bool.{true≢false, cases_eq, cases_lt}
use Rattle.std.proofs.lemmas.Grind.{get_or_default_zero, same_number_lists}
use Rattle.std.proofs.lemmas.List.{get_or-map, get_or-set_same, get_or-set_other, length-map}
use Rattle.std.proofs.lemmas.List.Elements.{Contains-get_or}
use Rattle.std.proofs.lemmas.List.FromFn.{get_or-range_with_len, length-range_with_len}
use Rattle.std.proofs.lemmas.List.Sums.{position_or_len_is, fails_before_first, passes_at_first}
use Rattle.std.proofs.lemmas.Slice.Eq.{bytes_eq-Decides}
use Rattle.relay_chains.specs.TextHash.{text_hash}
use Rattle.relay_text.specs.FirstPlaces.{first_place}
use Rattle.relay_aliasfile.specs.Twins.{texts_at, AreTwinPlaces, ArePutFirst}

-- ---- one more place
range_behind : (a n j : ℕ) → a + n ≡ j → range_with_len a (suc n) ≡ range_with_len a n ++ j ∷ []
range_behind a zero j e = ap (λ k. k ∷ []) (omega (arith, e))
range_behind a (suc n) j e = ap (λ ks. a ∷ ks) (range_behind (a + 1) n j (omega (arith, e)))

pub range_more : (n : ℕ) → range_with_len 0 (n + 1) ≡ range_with_len 0 n ++ n ∷ []
range_more n = let next : n + 1 ≡ suc n = omega arith in ap (range_with_len 0) next ∙ range_behind 0 n n (omega arith)

pub none_put : (places firsts all : List ℕ) → ArePutFirst places firsts 0 all all
none_put places firsts all = record { long = refl; put = λ k b. absurd (omega (arith, b)); kept = λ i none. refl }

pub put_more : (places firsts : List ℕ) (count : ℕ) (old new : List ℕ) → AllPairs (λ p q. p < q) places → All (λ p. p < length old) places → count < length places → ArePutFirst places firsts count old new
    → ArePutFirst places firsts (count + 1) old (set new (get_or places count 0) (get_or places (get_or firsts count 0) 0))
put_more places firsts count old new up within b so_far =
    let place = get_or places count 0 in
    let value = get_or places (get_or firsts count 0) 0 in
    let inside : place < length new = omega (arith, within count 0 b, so_far.long) in
    record {
      long = length-set new place value ∙ so_far.long;
      put = λ k c. elim (cases_lt k count) [
        | inl before ↦
            let less : get_or places k 0 < place = up k count 0 before b in
            get_or-set_other new place (get_or places k 0) value 0 (λ e. let wrong : ⊥ = omega (arith, e, less) in wrong) ∙ so_far.put k before
        | inr last ↦
            let is : k ≡ count = omega (arith, c, last) in
            ap (λ j. get_or (set new place value) (get_or places j 0) 0) is ∙ get_or-set_same new place value 0 inside ∙ ap (λ j. get_or places (get_or firsts j 0) 0) (sym is)
      ];
      kept = λ i none. get_or-set_other new place i value 0 (λ e. none (subst (λ p. Contains places p) (sym e) (Contains-get_or places count 0 b))) ∙ so_far.kept i none;
    }

-- ---- texts that are the same, and others
same_bytes : (xs ys : List ℕ) → xs ≡ ys → bytes_eq xs ys ≡ true
same_bytes xs ys e = (bytes_eq-Decides xs ys).1 e

other_bytes : (xs ys : List ℕ) → (xs ≡ ys → ⊥) → bytes_eq xs ys ≡ false
other_bytes xs ys none = at (bytes_eq xs ys) refl where
  at : (b : Bool) → bytes_eq xs ys ≡ b → bytes_eq xs ys ≡ false
  at true e = absurd (none ((bytes_eq-Decides xs ys).0 e))
  at false e = e

-- a number is among others or isn't
is_among : (ps : List ℕ) (k : ℕ) → Contains ps k ⊎ (Contains ps k → ⊥)
is_among [] k = inr (λ h. absurd (omega (arith, h.1)))
is_among (p ∷ ps) k = at (cases_eq p k) (is_among ps k) where
  behind : (p ≡ k → ⊥) → (Contains ps k → ⊥) → (j : ℕ) → j < length (p ∷ ps) → get_or (p ∷ ps) j k ≡ k → ⊥
  behind other nowhere zero b e = other e
  behind other nowhere (suc j) b e = nowhere (j, omega (arith, b), e)

  at : (p ≡ k) ⊎ (p ≡ k → ⊥) → Contains ps k ⊎ (Contains ps k → ⊥) → Contains (p ∷ ps) k ⊎ (Contains (p ∷ ps) k → ⊥)
  at (inl e) rest = inl (0, omega arith, e)
  at (inr other) (inl h) = inl (suc h.0, omega (arith, h.1), h.2)
  at (inr other) (inr nowhere) = inr (λ h. behind other nowhere h.0 h.1 h.2)

-- ---- first places
first_within : (texts : List (List ℕ)) (i : ℕ) → i < length texts → first_place texts (get_or texts i []) ≤ i
first_within texts i b = elim (cases_lt i (first_place texts (get_or texts i []))) [
  | inl before ↦
      let text = get_or texts i [] in
      absurd (true≢false (sym (same_bytes text text refl) ∙ fails_before_first (bytes_eq text) texts i [] before))
  | inr upto ↦ upto
]

first_is_same : (texts : List (List ℕ)) (i : ℕ) → i < length texts → get_or texts i [] ≡ get_or texts (first_place texts (get_or texts i [])) []
first_is_same texts i b =
    let text = get_or texts i [] in
    let inside : first_place texts text < length texts = omega (arith, b, first_within texts i b) in
    (bytes_eq-Decides text (get_or texts (first_place texts text) [])).0 (passes_at_first (bytes_eq text) texts [] inside)

module _ (texts : List (List ℕ)) (key : ℕ) (places : List ℕ) (twins : AreTwinPlaces (map (text_hash key) texts) places) where
  abbrev pub some : List (List ℕ)
  some = texts_at texts places

  abbrev pub text_at : ℕ → List ℕ
  text_at i = get_or texts i []

  hash_at : (i : ℕ) → i < length texts → get_or (map (text_hash key) texts) i 0 ≡ text_hash key (text_at i)
  hash_at i b = get_or-map (text_hash key) texts i [] 0 b

  pub within_texts : All (λ p. p < length texts) places
  within_texts i d b = omega (arith, twins.within i d b, length-map texts (text_hash key))

  both_among : (i j : ℕ) → i < j → j < length texts → text_at i ≡ text_at j → Contains places i × Contains places j
  both_among i j b c same =
      let first : i < length texts = omega (arith, b, c) in
      twins.twins i j b (omega (arith, c, length-map texts (text_hash key))) (hash_at i first ∙ ap (text_hash key) same ∙ sym (hash_at j c))

  some_at : (c : ℕ) → c < length places → get_or some c [] ≡ text_at (get_or places c 0)
  some_at c b = get_or-map text_at places c 0 [] b

  pub as_many : length some ≡ length places
  as_many = length-map places text_at

  rising : (a b : ℕ) → a ≤ b → b < length places → get_or places a 0 ≤ get_or places b 0
  rising a b upto inside = elim (cases_lt a b) [
    | inl before ↦ let less = twins.ascending a b 0 before inside in omega (arith, less)
    | inr same ↦ let is : a ≡ b = omega (arith, upto, same) in omega (arith, ap (λ j. get_or places j 0) is)
  ]

  -- a text that isn't among them stands once
  alone : (i : ℕ) → i < length texts → (Contains places i → ⊥) → first_place texts (text_at i) ≡ i
  alone i b none =
      position_or_len_is (bytes_eq (text_at i)) texts i [] (omega (arith, b))
      (λ k before. other_bytes (text_at i) (text_at k) (λ same. none (both_among k i before b (sym same)).1))
      (λ inside. same_bytes (text_at i) (text_at i) refl)

  -- one that is among them stands first where the first among them does
  module _ (c : ℕ) (b : c < length places) where
    abbrev pub first_among : ℕ
    first_among = first_place some (get_or some c [])

    in_some : c < length some
    in_some = omega (arith, b, as_many)

    pub among_within : first_among ≤ c
    among_within = first_within some c in_some

    inside : get_or places c 0 < length texts
    inside = within_texts c 0 b

    upto : get_or places first_among 0 ≤ get_or places c 0
    upto = rising first_among c among_within b

    same_text : text_at (get_or places c 0) ≡ text_at (get_or places first_among 0)
    same_text = sym (some_at c b) ∙ first_is_same some c in_some ∙ some_at first_among (omega (arith, among_within, b))

    none_before : (k : ℕ) → k < get_or places first_among 0 → text_at (get_or places c 0) ≡ text_at k → ⊥
    none_before k before same =
        let there = (both_among k (get_or places c 0) (omega (arith, before, upto)) inside (sym same)).0 in
        let is : get_or places there.0 0 ≡ k = sym (get_or_default_zero places there.0 k there.1) ∙ there.2 in
        elim (cases_lt there.0 first_among) [
          | inl less ↦
              let alike : get_or some c [] ≡ get_or some there.0 [] = some_at c b ∙ same ∙ ap text_at (sym is) ∙ sym (some_at there.0 there.1) in
              true≢false (sym (same_bytes (get_or some c []) (get_or some there.0 []) alike) ∙ fails_before_first (bytes_eq (get_or some c [])) some there.0 [] less)
          | inr more ↦ let far = rising first_among there.0 more there.1 in omega (arith, far, is, before)
        ]

    pub placed : first_place texts (text_at (get_or places c 0)) ≡ get_or places first_among 0
    placed =
        position_or_len_is (bytes_eq (text_at (get_or places c 0))) texts (get_or places first_among 0) [] (omega (arith, upto, inside))
        (λ k before. other_bytes (text_at (get_or places c 0)) (text_at k) (none_before k before))
        (λ there. same_bytes (text_at (get_or places c 0)) (text_at (get_or places first_among 0)) same_text)

  module _ (firsts : List ℕ) (firsts_are : firsts ≡ map (first_place some) some) where
    pub firsts_long : length firsts ≡ length places
    firsts_long = ap length firsts_are ∙ length-map some (first_place some) ∙ as_many

    first_is : (c : ℕ) (d : ℕ) → c < length places → get_or firsts c d ≡ first_place some (get_or some c [])
    first_is c d b = ap (λ fs. get_or fs c d) firsts_are ∙ get_or-map (first_place some) some c [] d (omega (arith, b, as_many))

    pub firsts_within : All (λ first. first < length places) firsts
    firsts_within c d b =
        let in_places : c < length places = omega (arith, b, firsts_long) in
        omega (arith, first_is c d in_places, among_within c in_places, in_places)

    pub all_first : (new : List ℕ) → ArePutFirst places firsts (length places) (range_with_len 0 (length texts)) new → new ≡ map (first_place texts) texts
    all_first new put =
        let wanted = map (first_place texts) texts in
        let long : length new ≡ length texts = put.long ∙ length-range_with_len 0 (length texts) in
        same_number_lists new wanted (long ∙ sym (length-map texts (first_place texts)))
        (λ k b.
        let there : k < length texts = omega (arith, b, long) in
        let want : get_or wanted k 0 ≡ first_place texts (text_at k) = get_or-map (first_place texts) texts k [] 0 there in
        elim (is_among places k) [
          | inl h ↦
              let is : get_or places h.0 0 ≡ k = sym (get_or_default_zero places h.0 k h.1) ∙ h.2 in
              ap (λ p. get_or new p 0) (sym is) ∙ put.put h.0 h.1 ∙ ap (λ j. get_or places j 0) (first_is h.0 0 h.1) ∙ sym (placed h.0 h.1) ∙ ap (λ p. first_place texts (text_at p)) is ∙ sym want
          | inr nowhere ↦
              let here : 0 + k ≡ k = omega arith in
              put.kept k nowhere ∙ get_or-range_with_len 0 (length texts) k 0 there ∙ here ∙ sym (alone k there nowhere) ∙ sym want
        ])
