-- Any distinct keys stand in some rising list.
use Rattle.std.proofs.Common.{◌≡◌, ◌≢◌, ℕ, zero, suc, ◌+◌, ◌<◌, cond, eqb, ltb, List, [], ◌∷◌, length, get_or, arith, sym, refl, ap, ◌∙◌, subst, ⊎_elim}
use Rattle.std.specs.Prelude.{All, AllPairs, Contains}
use Rattle.std.specs.List.Sorted.{IsStrictlyIncreasing, IsPermutation, IsNonDecreasing}
use Rattle.std.proofs.lemmas.Bool.{cases_eq, cases_lt, ne_eqb, lt-ltb, le-ltb, cond-true, cond-false}
use Rattle.std.proofs.lemmas.Bool.Decides.{Decides-eqb}
use Rattle.std.proofs.lemmas.Map.Keys.{IsStrictlyIncreasing-from_distinct, IsDistinct-IsPermutation}
use Rattle.std.proofs.lemmas.Map.Made.{IsDistinct-from_AllPairs}
use Rattle.std.proofs.lemmas.List.Elements.{All-cons, All-head, All-tail, All-nil, All-weaker, All-contains}
use Rattle.relay_rounds.proofs.Keys.{all_of, in_head, in_tail}

-- each below all that follow
abbrev Rises : List ℕ → Type 0
Rises [] = Unit {0}
Rises (x ∷ xs) = All (λ y. x < y) xs × Rises xs

-- a key put before the first one above it
abbrev put : ℕ → List ℕ → List ℕ
put k [] = k ∷ []
put k (x ∷ xs) = cond (ltb k x) (k ∷ x ∷ xs) (x ∷ put k xs)

put_all : (P : ℕ → Type 0) (k : ℕ) (xs : List ℕ) → P k → All P xs → All P (put k xs)
put_all P k [] here rest = All-cons P k [] here rest
put_all P k (x ∷ xs) here rest =
    ⊎_elim
    (λ low. subst (All P) (sym (cond-true _ _ _ (lt-ltb k x low))) (All-cons P k (x ∷ xs) here rest))
    (λ high. subst (All P) (sym (cond-false _ _ _ (le-ltb k x high))) (All-cons P x (put k xs) (All-head P x xs rest) (put_all P k xs here (All-tail P x xs rest))))
    (cases_lt k x)

put_len : (k : ℕ) (xs : List ℕ) → length (put k xs) ≡ suc (length xs)
put_len k [] = refl
put_len k (x ∷ xs) =
    ⊎_elim
    (λ low. ap length (cond-true _ _ _ (lt-ltb k x low)))
    (λ high. ap length (cond-false _ _ _ (le-ltb k x high)) ∙ ap suc (put_len k xs))
    (cases_lt k x)

put_rises : (k : ℕ) (xs : List ℕ) → All (λ x. k ≢ x) xs → Rises xs → Rises (put k xs)
put_rises k [] other up = (All-nil (λ y. k < y), tt)
put_rises k (x ∷ xs) other up =
    ⊎_elim
    (λ low. subst Rises (sym (cond-true _ _ _ (lt-ltb k x low)))
    (All-cons (λ y. k < y) x xs low (All-weaker (λ y. x < y) (λ y. k < y) (λ y more. omega arith) xs up.0), up))
    (λ high.
    let apart : k ≢ x = All-head (λ y. k ≢ y) x xs other in
    let above : x < k = omega arith in
    subst Rises (sym (cond-false _ _ _ (le-ltb k x high)))
    (put_all (λ y. x < y) k xs above up.0, put_rises k xs (All-tail (λ y. k ≢ y) x xs other) up.1))
    (cases_lt k x)

strictly : (xs : List ℕ) → Rises xs → IsStrictlyIncreasing xs
strictly [] up k below = absurd (omega arith)
strictly (x ∷ xs) up zero below = up.0 0 0 (omega arith)
strictly (x ∷ xs) up (suc k) below =
    let e : suc k + 1 ≡ suc (k + 1) = omega arith in
    let rest : get_or xs k 0 < get_or xs (k + 1) 0 = strictly xs up.1 k (omega arith) in
    subst (λ (n : ℕ). get_or xs k 0 < get_or (x ∷ xs) n 0) (sym e) rest

eqb_flips : (x y : ℕ) → eqb x y ≡ eqb y x
eqb_flips x y = ⊎_elim (λ e. ap (λ (z : ℕ). eqb x z) (sym e) ∙ ap (λ (z : ℕ). eqb z x) e) (λ n. ne_eqb x y n ∙ sym (ne_eqb y x (λ e. n (sym e)))) (cases_eq x y)

later : (x : ℕ) (xs : List ℕ) → AllPairs (λ a b. a ≢ b) (x ∷ xs) → AllPairs (λ a b. a ≢ b) xs
later x xs apart i j d before below = apart (suc i) (suc j) d (omega arith) (omega arith)

-- a rising list of as many of the same keys
in_order : (xs : List ℕ) → AllPairs (λ a b. a ≢ b) xs → (zs : List ℕ) × Rises zs × ((y : ℕ) → Contains zs y → Contains xs y) × (length zs ≡ length xs)
in_order [] apart = ([], tt, (λ y h. h), refl)
in_order (x ∷ xs) apart =
    let rest = in_order xs (later x xs apart) in
    let other : All (λ y. x ≢ y) rest.0 = all_of (λ y. x ≢ y) rest.0 (λ y on e.
    let place = rest.2 y on in
    apart 0 (suc place.0) y (omega arith) (let below : place.0 < length xs = place.1 in omega arith) (e ∙ sym place.2)) in
    let from : All (λ y. Contains (x ∷ xs) y) (put x rest.0) =
    put_all (λ y. Contains (x ∷ xs) y) x rest.0 (in_head x xs x refl) (all_of (λ y. Contains (x ∷ xs) y) rest.0 (λ y on. in_tail x xs y (rest.2 y on))) in (
      put x rest.0,
      put_rises x rest.0 other rest.1,
      (λ y on. All-contains (λ z. Contains (x ∷ xs) z) (put x rest.0) y from on),
      put_len x rest.0 ∙ ap suc rest.3,
    )

-- distinct keys, as a rising list
pub rising_of : (P : ℕ → Type 0) (xs : List ℕ) → AllPairs (λ a b. a ≢ b) xs → All P xs → (zs : List ℕ) × IsStrictlyIncreasing zs × All P zs × (length zs ≡ length xs)
rising_of P xs apart each =
    let w = in_order xs apart in
    (w.0, strictly w.0 w.1, all_of P w.0 (λ y on. All-contains P xs y each (w.2 y on)), w.3)

-- distinct keys rise once they are sorted
pub sorted_rises : (xs ys : List ℕ) → AllPairs (λ a b. a ≢ b) xs → IsPermutation xs ys → IsNonDecreasing ys → IsStrictlyIncreasing ys
sorted_rises xs ys apart moved sorted =
    IsStrictlyIncreasing-from_distinct ys sorted
    (IsDistinct-IsPermutation eqb eqb_flips xs ys moved (IsDistinct-from_AllPairs Decides-eqb xs apart))
