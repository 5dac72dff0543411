-- The distinct numbers of a list whose equal numbers stand side by side.
use Rattle.std.proofs.Common.{◌≡◌, ℕ, ◌+◌, ◌-◌, ◌<◌, ◌≤◌, Bool, true, false, cond, eqb, List, [], ◌∷◌, ◌++◌, length, get_or, refl, sym, ap, ◌∙◌, subst, arith, suc, inl, inr}
use Rattle.std.specs.List.{All, AllPairs, dedup, dedup_from}
use Rattle.std.proofs.lemmas.Bool.{cases_Bool, cases_eq, cond-true, cond-false, eqb-true, eqb-false, eq-eqb, ne_eqb}
use Rattle.std.proofs.lemmas.List.{append-nil, append_assoc, get_or_append_left, get_or_push, length-append, length_push}
use Rattle.std.proofs.lemmas.List.Elements.{All-cons, All-head, All-tail, All-weaker}
use Rattle.std.proofs.lemmas.List.Filters.{All-dedup}
use Rattle.std.proofs.lemmas.List.Kept.{AllPairs-cons}
use Rattle.relay_rings.proofs.Counting.{IsAscending}

abbrev pub distinct : List ℕ → List ℕ
distinct xs = dedup eqb xs

abbrev last_of : ℕ → List ℕ → ℕ
last_of k [] = k
last_of k (x ∷ xs) = last_of x xs

cond_one : (b : Bool) (k y : ℕ) → cond b (k ∷ []) (k ∷ y ∷ []) ≡ (k ∷ []) ++ cond b [] (y ∷ [])
cond_one true k y = refl
cond_one false k y = refl

dedup_from-push : (k : ℕ) (xs : List ℕ) (y : ℕ) → dedup_from eqb k (xs ++ y ∷ []) ≡ dedup_from eqb k xs ++ cond (eqb y (last_of k xs)) [] (y ∷ [])
dedup_from-push k [] y = cond_one (eqb y k) k y
dedup_from-push k (x ∷ xs) y =
    let ending : ℕ → List ℕ = λ l. cond (eqb y l) [] (y ∷ []) in
    elim (cases_Bool (eqb x k)) [
      | inl same ↦
          cond-true (eqb x k) (dedup_from eqb k (xs ++ y ∷ [])) (k ∷ dedup_from eqb x (xs ++ y ∷ [])) same
          ∙ dedup_from-push k xs y
          ∙ ap (λ z. dedup_from eqb k xs ++ ending (last_of z xs)) (sym (eqb-true x k same))
          ∙ sym (ap (λ zs. zs ++ ending (last_of x xs)) (cond-true (eqb x k) (dedup_from eqb k xs) (k ∷ dedup_from eqb x xs) same))
      | inr other ↦
          cond-false (eqb x k) (dedup_from eqb k (xs ++ y ∷ [])) (k ∷ dedup_from eqb x (xs ++ y ∷ [])) other
          ∙ ap (λ zs. k ∷ zs) (dedup_from-push x xs y)
          ∙ sym (ap (λ zs. zs ++ ending (last_of x xs)) (cond-false (eqb x k) (dedup_from eqb k xs) (k ∷ dedup_from eqb x xs) other))
    ]

dedup_from-some : (k : ℕ) (xs : List ℕ) → 0 < length (dedup_from eqb k xs)
dedup_from-some k [] = omega arith
dedup_from-some k (x ∷ xs) =
    elim (cases_Bool (eqb x k)) [
      | inl same ↦ subst (λ zs. 0 < length zs) (sym (cond-true (eqb x k) (dedup_from eqb k xs) (k ∷ dedup_from eqb x xs) same)) (dedup_from-some k xs)
      | inr other ↦ subst (λ zs. 0 < length zs) (sym (cond-false (eqb x k) (dedup_from eqb k xs) (k ∷ dedup_from eqb x xs) other)) (omega arith)
    ]

get_or_behind : (k : ℕ) (xs : List ℕ) (d : ℕ) → 0 < length xs → get_or (k ∷ xs) (length (k ∷ xs) - 1) d ≡ get_or xs (length xs - 1) d
get_or_behind k xs d some =
    let e : length (k ∷ xs) - 1 ≡ suc (length xs - 1) = omega arith in
    ap (λ n. get_or (k ∷ xs) n d) e

dedup_from-last : (k : ℕ) (xs : List ℕ) (d : ℕ) → get_or (dedup_from eqb k xs) (length (dedup_from eqb k xs) - 1) d ≡ last_of k xs
dedup_from-last k [] d = refl
dedup_from-last k (x ∷ xs) d =
    let last : List ℕ → ℕ = λ zs. get_or zs (length zs - 1) d in
    elim (cases_Bool (eqb x k)) [
      | inl same ↦
          ap last (cond-true (eqb x k) (dedup_from eqb k xs) (k ∷ dedup_from eqb x xs) same)
          ∙ dedup_from-last k xs d
          ∙ ap (λ z. last_of z xs) (sym (eqb-true x k same))
      | inr other ↦
          ap last (cond-false (eqb x k) (dedup_from eqb k xs) (k ∷ dedup_from eqb x xs) other)
          ∙ get_or_behind k (dedup_from eqb x xs) d (dedup_from-some x xs)
          ∙ dedup_from-last x xs d
    ]

-- one more number that is the last one kept changes nothing
pub distinct_same : (xs : List ℕ) (y : ℕ) → 0 < length (distinct xs) → get_or (distinct xs) (length (distinct xs) - 1) 0 ≡ y → distinct (xs ++ y ∷ []) ≡ distinct xs
distinct_same [] y some e = absurd (omega arith)
distinct_same (x ∷ xs) y some e =
    let last : last_of x xs ≡ y = sym (dedup_from-last x xs 0) ∙ e in
    dedup_from-push x xs y
    ∙ ap (λ zs. dedup_from eqb x xs ++ zs) (cond-true (eqb y (last_of x xs)) [] (y ∷ []) (eq-eqb y (last_of x xs) (sym last)))
    ∙ append-nil (dedup_from eqb x xs)

-- another number stands at the end
pub distinct_other : (xs : List ℕ) (y : ℕ) → (0 < length (distinct xs) → get_or (distinct xs) (length (distinct xs) - 1) 0 ≡ y → ⊥) → distinct (xs ++ y ∷ []) ≡ distinct xs ++ y ∷ []
distinct_other [] y ne = refl
distinct_other (x ∷ xs) y ne =
    let other : y ≡ last_of x xs → ⊥ = λ e. ne (dedup_from-some x xs) (dedup_from-last x xs 0 ∙ sym e) in
    dedup_from-push x xs y
    ∙ ap (λ zs. dedup_from eqb x xs ++ zs) (cond-false (eqb y (last_of x xs)) [] (y ∷ []) (ne_eqb y (last_of x xs) other))

distinct_step : (xs : List ℕ) (y : ℕ) → (zs : List ℕ) × (distinct (xs ++ y ∷ []) ≡ distinct xs ++ zs)
distinct_step xs y =
    elim (cases_eq (length (distinct xs)) 0) [
      | inl none ↦ (y ∷ [], distinct_other xs y (λ some e. omega arith))
      | inr some ↦
          elim (cases_eq (get_or (distinct xs) (length (distinct xs) - 1) 0) y) [
            | inl same ↦ ([], distinct_same xs y (omega arith) same ∙ sym (append-nil (distinct xs)))
            | inr ne ↦ (y ∷ [], distinct_other xs y (λ _ e. ne e))
          ]
    ]

-- the distinct numbers of a front come first
pub distinct_front : (xs ys : List ℕ) → (zs : List ℕ) × (distinct (xs ++ ys) ≡ distinct xs ++ zs)
distinct_front xs [] = ([], ap distinct (append-nil xs) ∙ sym (append-nil (distinct xs)))
distinct_front xs (y ∷ ys) =
    let first = distinct_step xs y in
    let rest = distinct_front (xs ++ y ∷ []) ys in
    (first.0 ++ rest.0, ap distinct (sym (append_assoc xs (y ∷ []) ys)) ∙ rest.1 ∙ ap (λ zs. zs ++ rest.0) first.1 ∙ append_assoc (distinct xs) first.0 rest.0)

distinct-some : (xs : List ℕ) → 0 < length xs → 0 < length (distinct xs)
distinct-some [] h = h
distinct-some (x ∷ xs) h = dedup_from-some x xs

-- Among the distinct numbers of xs, y and ys: the one at the place where the numbers of xs end, or the next one, is y.
module _ (xs : List ℕ) (y : ℕ) (ys : List ℕ) where
  abbrev all : List ℕ
  all = distinct ((xs ++ y ∷ []) ++ ys)

  here : (j : ℕ) → j < length (distinct (xs ++ y ∷ [])) → get_or all j 0 ≡ get_or (distinct (xs ++ y ∷ [])) j 0
  here j b =
      let f = distinct_front (xs ++ y ∷ []) ys in
      ap (λ zs. get_or zs j 0) f.1 ∙ get_or_append_left (distinct (xs ++ y ∷ [])) f.0 0 j b

  before : (j : ℕ) → j < length (distinct xs) → get_or all j 0 ≡ get_or (distinct xs) j 0
  before j b =
      let f = distinct_step xs y in
      let long : length (distinct (xs ++ y ∷ [])) ≡ length (distinct xs) + length f.0 = ap length f.1 ∙ length-append (distinct xs) f.0 in
      here j (omega arith) ∙ ap (λ zs. get_or zs j 0) f.1 ∙ get_or_append_left (distinct xs) f.0 0 j b

  pub turn_before : length (distinct xs) - 1 < length all
  turn_before =
      let f = distinct_step xs y in
      let g = distinct_front (xs ++ y ∷ []) ys in
      let long : length (distinct (xs ++ y ∷ [])) ≡ length (distinct xs) + length f.0 = ap length f.1 ∙ length-append (distinct xs) f.0 in
      let longer : length all ≡ length (distinct (xs ++ y ∷ [])) + length g.0 = ap length g.1 ∙ length-append (distinct (xs ++ y ∷ [])) g.0 in
      let some = distinct-some (xs ++ y ∷ []) (omega (arith, length_push xs y)) in
      omega arith

  pub turn_within : length (distinct (xs ++ y ∷ [])) - 1 < length all
  turn_within =
      let f = distinct_front (xs ++ y ∷ []) ys in
      let long : length all ≡ length (distinct (xs ++ y ∷ [])) + length f.0 = ap length f.1 ∙ length-append (distinct (xs ++ y ∷ [])) f.0 in
      let some = distinct-some (xs ++ y ∷ []) (omega (arith, length_push xs y)) in
      omega arith

  pub turn_same : get_or all (length (distinct xs) - 1) 0 ≡ y → length (distinct (xs ++ y ∷ [])) - 1 ≡ length (distinct xs) - 1
  turn_same e =
      elim (cases_eq (length (distinct xs)) 0) [
        | inl none ↦
            let one = ap length (distinct_other xs y (λ some _. omega arith)) in
            omega (arith, one, length_push (distinct xs) y)
        | inr some ↦
            let there = before (length (distinct xs) - 1) (omega arith) in
            let same = ap length (distinct_same xs y (omega arith) (sym there ∙ e)) in
            omega arith
      ]

  pub turn_next : (get_or all (length (distinct xs) - 1) 0 ≡ y → ⊥) → (length (distinct (xs ++ y ∷ [])) - 1 ≡ length (distinct xs) - 1 + 1) × (get_or all (length (distinct xs) - 1 + 1) 0 ≡ y)
  turn_next ne =
      elim (cases_eq (length (distinct xs)) 0) [
        | inl none ↦
            let is = distinct_other xs y (λ some _. omega arith) in
            let long : length (distinct (xs ++ y ∷ [])) ≡ length (distinct xs) + 1 = ap length is ∙ length_push (distinct xs) y in
            let place : length (distinct xs) - 1 ≡ length (distinct xs) = omega arith in
            absurd (ne (ap (λ n. get_or all n 0) place ∙ here (length (distinct xs)) (omega arith) ∙ ap (λ zs. get_or zs (length (distinct xs)) 0) is ∙ get_or_push (distinct xs) y 0 (length (distinct xs)) refl))
        | inr some ↦
            let there = before (length (distinct xs) - 1) (omega arith) in
            let is = distinct_other xs y (λ _ e. ne (there ∙ e)) in
            let long : length (distinct (xs ++ y ∷ [])) ≡ length (distinct xs) + 1 = ap length is ∙ length_push (distinct xs) y in
            let place : length (distinct xs) - 1 + 1 ≡ length (distinct xs) = omega arith in
            (omega arith, ap (λ n. get_or all n 0) place ∙ here (length (distinct xs)) (omega arith) ∙ ap (λ zs. get_or zs (length (distinct xs)) 0) is ∙ get_or_push (distinct xs) y 0 (length (distinct xs)) refl)
      ]

-- the place of a number's key, after the one at `place` was looked at
pub turn_place : (xs : List ℕ) (y : ℕ) (ys : List ℕ) → get_or (distinct ((xs ++ y ∷ []) ++ ys)) (length (distinct (xs ++ y ∷ [])) - 1) 0 ≡ y
turn_place xs y ys =
    elim (cases_eq (get_or (distinct ((xs ++ y ∷ []) ++ ys)) (length (distinct xs) - 1) 0) y) [
      | inl e ↦ ap (λ n. get_or (distinct ((xs ++ y ∷ []) ++ ys)) n 0) (turn_same xs y ys e) ∙ e
      | inr ne ↦
          let n = turn_next xs y ys ne in
          ap (λ n. get_or (distinct ((xs ++ y ∷ []) ++ ys)) n 0) n.0 ∙ n.1
    ]

-- ---- numbers in order
abbrev pub IsNonDescending : List ℕ → Type 0
IsNonDescending xs = AllPairs (λ x y. x ≤ y) xs

dedup_from-ascending : (k : ℕ) (xs : List ℕ) → All (λ x. k ≤ x) xs → IsNonDescending xs → IsAscending (dedup_from eqb k xs)
dedup_from-ascending k [] low up = λ i j d a b. absurd (omega arith)
dedup_from-ascending k (x ∷ xs) low up =
    let next : k ≤ x = All-head (λ y. k ≤ y) x xs low in
    let above : All (λ y. x ≤ y) xs = λ i d b. up 0 (suc i) d (omega arith) (omega arith) in
    let later : IsNonDescending xs = λ i j d a b. up (suc i) (suc j) d (omega arith) (omega arith) in
    elim (cases_Bool (eqb x k)) [
      | inl same ↦
          subst IsAscending (sym (cond-true (eqb x k) (dedup_from eqb k xs) (k ∷ dedup_from eqb x xs) same))
          (dedup_from-ascending k xs (All-tail (λ y. k ≤ y) x xs low) later)
      | inr other ↦
          let far : k < x = omega (arith, eqb-false x k other) in
          let beyond : All (λ y. k < y) (x ∷ xs) = All-cons (λ y. k < y) x xs far (All-weaker (λ y. x ≤ y) (λ y. k < y) (λ y l. omega arith) xs above) in
          subst IsAscending (sym (cond-false (eqb x k) (dedup_from eqb k xs) (k ∷ dedup_from eqb x xs) other))
          (AllPairs-cons (λ y z. y < z) k (dedup_from eqb x xs) (All-dedup eqb (λ y. k < y) (x ∷ xs) beyond) (dedup_from-ascending x xs above later))
    ]

pub distinct-ascending : (xs : List ℕ) → IsNonDescending xs → IsAscending (distinct xs)
distinct-ascending [] up = λ i j d a b. absurd (omega arith)
distinct-ascending (x ∷ xs) up = dedup_from-ascending x xs (λ i d b. up 0 (suc i) d (omega arith) (omega arith)) (λ i j d a b. up (suc i) (suc j) d (omega arith) (omega arith))
