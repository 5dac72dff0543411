-- Texts that are kept by their first places.
use Rattle.std.proofs.Common.{◌≡◌, ℕ, ◌+◌, ◌<◌, ◌≤◌, Bool, true, false, ◌||◌, ◌&&◌, cond, eqb, List, [], ◌∷◌, ◌++◌, length, take, get_or, map, refl, sym, ap, subst, ◌∙◌, arith, zero, suc, inl, inr}
use Rattle.std.specs.Prelude.{not, filter}
use Rattle.std.specs.Str.{bytes_eq}
use Rattle.std.specs.Bool.{Decides}
use Rattle.std.proofs.lemmas.Bool.{true≢false, cases_lt}
use Rattle.std.proofs.lemmas.Bool.Decides.{Decides-eqb}
use Rattle.std.proofs.lemmas.List.{append_assoc, append-nil, length-map, get_or-map, get_or_default, take_all, take_more}
use Rattle.std.proofs.lemmas.List.Folds.{list_any-append}
use Rattle.std.proofs.lemmas.List.Sums.{fails_before_first}
use Rattle.std.proofs.lemmas.Slice.Eq.{bytes_eq-Decides}
use Rattle.relay_text.specs.Bytes.{has_text, firsts}
use Rattle.relay_text.specs.FirstPlaces.{first_place}
use Rattle.relay_aliasfile.specs.DistinctTexts.{with_text, with_texts}

-- one test after another is one test
both_tests : {X : Type 0} (p q r : X → Bool) → ((x : X) → r x ≡ (q x && p x)) → (xs : List X) → filter p (filter q xs) ≡ filter r xs
both_tests p q r h [] = refl
both_tests {X} p q r h (x ∷ xs) = at (q x) (h x) (both_tests p q r h xs) where
  at : (b : Bool) → r x ≡ (b && p x) → filter p (filter q xs) ≡ filter r xs → filter p (cond b (x ∷ filter q xs) (filter q xs)) ≡ cond (r x) (x ∷ filter r xs) (filter r xs)
  at true e rest = ap (λ t. cond t (x ∷ filter p (filter q xs)) (filter p (filter q xs))) (sym e) ∙ ap (λ t. cond (r x) (x ∷ t) t) rest
  at false e rest = rest ∙ ap (λ t. cond t (x ∷ filter r xs) (filter r xs)) (sym e)

bytes_eq_swap : (xs ys : List ℕ) → bytes_eq xs ys ≡ bytes_eq ys xs
bytes_eq_swap xs ys = at (bytes_eq xs ys) refl (bytes_eq ys xs) refl where
  at : (a : Bool) → bytes_eq xs ys ≡ a → (b : Bool) → bytes_eq ys xs ≡ b → a ≡ b
  at true e true f = refl
  at false e false f = refl
  at true e false f = absurd (true≢false (sym ((bytes_eq-Decides ys xs).1 (sym ((bytes_eq-Decides xs ys).0 e))) ∙ f))
  at false e true f = absurd (true≢false (sym ((bytes_eq-Decides xs ys).1 (sym ((bytes_eq-Decides ys xs).0 f))) ∙ e))

not_or : (a b c : Bool) → b ≡ c → not (a || (c || false)) ≡ (not b && not a)
not_or true true c e = refl
not_or true false c e = refl
not_or false true true e = refl
not_or false false false e = refl
not_or false true false e = absurd (true≢false e)
not_or false false true e = absurd (true≢false (sym e))

-- not among the texts and the new one: neither the new one nor among the texts
not_among : (ns : List (List ℕ)) (x y : List ℕ) → not (has_text (ns ++ x ∷ []) y) ≡ (not (bytes_eq x y) && not (has_text ns y))
not_among ns x y = ap (λ t. not t) (list_any-append (bytes_eq y) ns (x ∷ [])) ∙ not_or (has_text ns y) (bytes_eq x y) (bytes_eq y x) (bytes_eq_swap x y)

-- where the new one is among the texts, what isn't among them isn't the new one
not_again : (ns : List (List ℕ)) (x y : List ℕ) → has_text ns x ≡ true → not (has_text ns y) ≡ (not (bytes_eq x y) && not (has_text ns y))
not_again ns x y e = at (bytes_eq x y) refl (has_text ns y) refl where
  at : (a : Bool) → bytes_eq x y ≡ a → (b : Bool) → has_text ns y ≡ b → not b ≡ (not a && not b)
  at false f b g = refl
  at true f true g = refl
  at true f false g = absurd (true≢false (sym e ∙ ap (has_text ns) ((bytes_eq-Decides x y).0 f) ∙ g))

-- texts that are added one by one are those that were there, and then the first of each other
pub with_texts-is : (ns xs : List (List ℕ)) → with_texts ns xs ≡ ns ++ filter (λ y. not (has_text ns y)) (firsts bytes_eq xs)
with_texts-is ns [] = sym (append-nil ns)
with_texts-is ns (x ∷ xs) = at (has_text ns x) refl (with_texts-is ns xs) (with_texts-is (ns ++ x ∷ []) xs) where
  at : (b : Bool) → has_text ns x ≡ b
      → with_texts ns xs ≡ ns ++ filter (λ y. not (has_text ns y)) (firsts bytes_eq xs)
      → with_texts (ns ++ x ∷ []) xs ≡ (ns ++ x ∷ []) ++ filter (λ y. not (has_text (ns ++ x ∷ []) y)) (firsts bytes_eq xs)
      → with_texts (cond b ns (ns ++ x ∷ [])) xs ≡ ns ++ cond (not b) (x ∷ filter (λ y. not (has_text ns y)) (filter (λ y. not (bytes_eq x y)) (firsts bytes_eq xs))) (filter (λ y. not (has_text ns y)) (filter (λ y. not (bytes_eq x y)) (firsts bytes_eq xs)))
  at true e was more = was ∙ ap (λ t. ns ++ t) (sym (both_tests (λ y. not (has_text ns y)) (λ y. not (bytes_eq x y)) (λ y. not (has_text ns y)) (λ y. not_again ns x y e) (firsts bytes_eq xs)))
  at false e was more = more ∙ append_assoc ns (x ∷ []) _ ∙ ap (λ t. ns ++ x ∷ t) (sym (both_tests (λ y. not (has_text ns y)) (λ y. not (bytes_eq x y)) (λ y. not (has_text (ns ++ x ∷ []) y)) (λ y. not_among ns x y) (firsts bytes_eq xs)))

all_kept : (xs : List (List ℕ)) → filter (λ y. true) xs ≡ xs
all_kept [] = refl
all_kept (x ∷ xs) = ap (λ t. x ∷ t) (all_kept xs)

pub with_texts-none : (xs : List (List ℕ)) → with_texts [] xs ≡ firsts bytes_eq xs
with_texts-none xs = with_texts-is [] xs ∙ all_kept (firsts bytes_eq xs)

-- ---- the loop that keeps the texts that stand where they stand first

-- what was kept has the texts that it was kept of
has_text-with_text : (ts : List (List ℕ)) (x q : List ℕ) → has_text (with_text ts x) q ≡ (has_text ts q || (bytes_eq q x || false))
has_text-with_text ts x q = at (has_text ts x) refl where
  there : has_text ts x ≡ true → (a b : Bool) → bytes_eq q x ≡ a → has_text ts q ≡ b → b ≡ (b || (a || false))
  there e true true f g = refl
  there e true false f g = absurd (true≢false (sym e ∙ ap (has_text ts) (sym ((bytes_eq-Decides q x).0 f)) ∙ g))
  there e false true f g = refl
  there e false false f g = refl

  at : (b : Bool) → has_text ts x ≡ b → has_text (cond b ts (ts ++ x ∷ [])) q ≡ (has_text ts q || (bytes_eq q x || false))
  at true e = there e (bytes_eq q x) (has_text ts q) refl refl
  at false e = list_any-append (bytes_eq q) ts (x ∷ [])

or_assoc : (a b c : Bool) → ((a || (b || false)) || c) ≡ (a || (b || c))
or_assoc true b c = refl
or_assoc false true c = refl
or_assoc false false c = refl

has_text-with_texts : (ts xs : List (List ℕ)) (q : List ℕ) → has_text (with_texts ts xs) q ≡ (has_text ts q || has_text xs q)
has_text-with_texts ts [] q = at (has_text ts q) where
  at : (b : Bool) → b ≡ (b || false)
  at true = refl
  at false = refl
has_text-with_texts ts (x ∷ xs) q =
    has_text-with_texts (with_text ts x) xs q ∙ ap (λ b. b || has_text xs q) (has_text-with_text ts x q)
    ∙ or_assoc (has_text ts q) (bytes_eq q x) (has_text xs q)

with_texts-push : (ts xs : List (List ℕ)) (y : List ℕ) → with_texts ts (xs ++ y ∷ []) ≡ with_text (with_texts ts xs) y
with_texts-push ts [] y = refl
with_texts-push ts (x ∷ xs) y = with_texts-push (with_text ts x) xs y

-- a text stands first at its place where none before it is the same
none_before : (xs : List (List ℕ)) (x : List ℕ) (i : ℕ) → i ≤ first_place xs x → has_text (take i xs) x ≡ false
none_before xs x zero h = refl
none_before [] x (suc i) h = refl
none_before (y ∷ ys) x (suc i) h = at (bytes_eq x y) refl h (none_before ys x i) where
  at : (b : Bool) → bytes_eq x y ≡ b → suc i ≤ cond (not b) (1 + first_place ys x) 0 → (i ≤ first_place ys x → has_text (take i ys) x ≡ false) → (b || has_text (take i ys) x) ≡ false
  at true e h later = absurd (omega (arith, h))
  at false e h later = later (omega (arith, h))

some_before : (xs : List (List ℕ)) (x : List ℕ) (i : ℕ) → first_place xs x < i → i ≤ length xs → has_text (take i xs) x ≡ true
some_before xs x zero h inside = absurd (omega (arith, h))
some_before [] x (suc i) h inside = absurd (omega (arith, inside))
some_before (y ∷ ys) x (suc i) h inside = at (bytes_eq x y) h (λ g. some_before ys x i g (omega (arith, inside))) where
  at : (b : Bool) → cond (not b) (1 + first_place ys x) 0 < suc i → (first_place ys x < i → has_text (take i ys) x ≡ true) → (b || has_text (take i ys) x) ≡ true
  at true h later = refl
  at false h later = later (omega (arith, h))

no_later : (xs : List (List ℕ)) (x : List ℕ) (i : ℕ) → i < length xs → x ≡ get_or xs i x → first_place xs x ≤ i
no_later xs x i inside is =
    elim (cases_lt i (first_place xs x)) [
      | inl over ↦ absurd (true≢false (sym ((bytes_eq-Decides x (get_or xs i x)).1 is) ∙ fails_before_first (bytes_eq x) xs i x over))
      | inr upto ↦ upto
    ]

kept_first : (xs kept : List (List ℕ)) (x : List ℕ) (i : ℕ) → i < length xs → x ≡ get_or xs i x → kept ≡ with_texts [] (take i xs) → first_place xs x ≡ i → kept ++ x ∷ [] ≡ with_texts [] (take (i + 1) xs)
kept_first xs kept x i inside is so_far first =
    let fresh : has_text (with_texts [] (take i xs)) x ≡ false = has_text-with_texts [] (take i xs) x ∙ none_before xs x i (let e : i ≤ first_place xs x = omega (arith, first) in e) in
    ap (λ ts. ts ++ x ∷ []) so_far
    ∙ sym (ap (λ b. cond b (with_texts [] (take i xs)) (with_texts [] (take i xs) ++ x ∷ [])) fresh)
    ∙ sym (with_texts-push [] (take i xs) x)
    ∙ ap (with_texts []) (ap (λ y. take i xs ++ y ∷ []) is ∙ sym (take_more xs i x inside))

kept_all : (xs : List (List ℕ)) → ((k : ℕ) → k < length xs → first_place xs (get_or xs k []) ≡ k) → (i : ℕ) → i ≤ length xs → take i xs ≡ with_texts [] (take i xs)
kept_all xs own zero h = refl
kept_all xs own (suc i) h =
    let inside : i < length xs = omega (arith, h) in
    let x = get_or xs i [] in
    let first : take i xs ++ x ∷ [] ≡ with_texts [] (take (i + 1) xs) =
    kept_first xs (take i xs) x i inside (get_or_default xs i [] x inside) (kept_all xs own i (let e : i ≤ length xs = omega (arith, h) in e)) (own i inside) in
    let next : i + 1 ≡ suc i = omega arith in
    subst (λ (n : ℕ). take n xs ≡ with_texts [] (take n xs)) next (take_more xs i [] inside ∙ first)

-- where each text stands first at its own place, all of them are firsts
pub all_first : (xs : List (List ℕ)) (places : List ℕ) → places ≡ map (first_place xs) xs → ((k : ℕ) → k < length places → get_or places k 0 ≡ k) → xs ≡ firsts bytes_eq xs
all_first xs places are own =
    let long : length places ≡ length xs = ap length are ∙ length-map xs (first_place xs) in
    let whole = take_all (length xs) xs (let e : length xs ≤ length xs = omega arith in e) in
    let at : (k : ℕ) → k < length xs → first_place xs (get_or xs k []) ≡ k = λ k inside.
    sym (get_or-map (first_place xs) xs k [] 0 inside) ∙ ap (λ (l : List ℕ). get_or l k 0) (sym are) ∙ own k (let e : k < length places = omega (arith, long, inside) in e) in
    sym whole ∙ kept_all xs at (length xs) (let e : length xs ≤ length xs = omega arith in e) ∙ ap (with_texts []) whole ∙ with_texts-none xs

kept_other : (xs kept : List (List ℕ)) (x : List ℕ) (i n : ℕ) → i < length xs → x ≡ get_or xs i x → kept ≡ with_texts [] (take i xs) → n ≡ first_place xs x → (n ≡ i → ⊥) → kept ≡ with_texts [] (take (i + 1) xs)
kept_other xs kept x i n inside is so_far first apart =
    let upto = no_later xs x i inside is in
    let less : first_place xs x < i = elim (cases_lt (first_place xs x) i) [ inl less ↦ less | inr more ↦ absurd (apart (let e : n ≡ i = omega (arith, first, upto, more) in e)) ] in
    let again : has_text (with_texts [] (take i xs)) x ≡ true = has_text-with_texts [] (take i xs) x ∙ some_before xs x i less (let e : i ≤ length xs = omega (arith, inside) in e) in
    so_far
    ∙ sym (ap (λ b. cond b (with_texts [] (take i xs)) (with_texts [] (take i xs) ++ x ∷ [])) again)
    ∙ sym (with_texts-push [] (take i xs) x)
    ∙ ap (with_texts []) (ap (λ y. take i xs ++ y ∷ []) is ∙ sym (take_more xs i x inside))

pub kept_more : (xs kept more : List (List ℕ)) (x : List ℕ) (i n : ℕ) → i < length xs → x ≡ get_or xs i x → kept ≡ with_texts [] (take i xs) → n ≡ first_place xs x
    → more ≡ cond (eqb n i) (kept ++ x ∷ []) kept → more ≡ with_texts [] (take (i + 1) xs)
kept_more xs kept more x i n inside is so_far first new = at (eqb n i) (Decides-eqb n i) new where
  at : (b : Bool) → Decides b (n ≡ i) → more ≡ cond b (kept ++ x ∷ []) kept → more ≡ with_texts [] (take (i + 1) xs)
  at true d e = e ∙ kept_first xs kept x i inside is so_far (sym first ∙ d.0 refl)
  at false d e = e ∙ kept_other xs kept x i n inside is so_far first (λ f. true≢false (sym (d.1 f)))

-- whether a text stands first at its place
pub is_first-is : (xs : List (List ℕ)) (x : List ℕ) (i : ℕ) → i < length xs → x ≡ get_or xs i x → eqb (first_place xs x) i ≡ not (has_text (take i xs) x)
is_first-is xs x i inside is = at (eqb (first_place xs x) i) (Decides-eqb (first_place xs x) i) where
  at : (b : Bool) → Decides b (first_place xs x ≡ i) → b ≡ not (has_text (take i xs) x)
  at true d = sym (ap (λ t. not t) (none_before xs x i (let e = d.0 refl in let f : i ≤ first_place xs x = omega (arith, e) in f)))
  at false d =
      sym (ap (λ t. not t) (some_before xs x i
      (elim (cases_lt (first_place xs x) i) [
        | inl less ↦ less
        | inr more ↦ absurd (true≢false (sym (d.1 (let upto = no_later xs x i inside is in let e : first_place xs x ≡ i = omega (arith, upto, more) in e))))
      ])
      (let f : i ≤ length xs = omega (arith, inside) in f)))
