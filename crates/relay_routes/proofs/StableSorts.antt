-- What filters keep of lists, and of stably sorted ones.
use Rattle.std.proofs.Common.{◌≡◌, Bool, true, false, cond, List, [], ◌∷◌, refl, sym, ap, ◌∙◌, subst, filter}
use Rattle.std.specs.List.{All}
use Rattle.std.specs.List.Sorted.{IsPermutation, IsStableBy, ties}
use Rattle.std.proofs.lemmas.List.Elements.{All-cons, All-head, All-tail, All-nil, filter_passes, filter_agree}
use Rattle.std.proofs.lemmas.List.Sorted.{All-permutation}

pub none_pass : {X : Type 0} (test : X → Bool) (xs : List X) → All (λ x. test x ≡ false) xs → filter test xs ≡ []
none_pass test [] h = refl
none_pass test (x ∷ xs) h =
    ap (λ t. cond t (x ∷ filter test xs) (filter test xs)) (All-head (λ y. test y ≡ false) x xs h)
    ∙ none_pass test xs (All-tail (λ y. test y ≡ false) x xs h)

pub all_pass : {X : Type 0} (test : X → Bool) (xs : List X) → All (λ x. test x ≡ true) xs → filter test xs ≡ xs
all_pass test [] h = refl
all_pass test (x ∷ xs) h =
    ap (λ t. cond t (x ∷ filter test xs) (filter test xs)) (All-head (λ y. test y ≡ true) x xs h)
    ∙ ap (λ rest. x ∷ rest) (all_pass test xs (All-tail (λ y. test y ≡ true) x xs h))

none_passed : {X : Type 0} (test : X → Bool) (xs : List X) → filter test xs ≡ [] → All (λ x. test x ≡ false) xs
none_passed test [] e = All-nil (λ x. test x ≡ false)
none_passed {X} test (x ∷ xs) e = at (test x) refl e (none_passed test xs) where
  at : (b : Bool) → test x ≡ b → cond b (x ∷ filter test xs) (filter test xs) ≡ [] → (filter test xs ≡ [] → All (λ y. test y ≡ false) xs) → All (λ y. test y ≡ false) (x ∷ xs)
  at true t kept later = absurd (let no : ⊥ = cc in no)
  at false t kept later = All-cons (λ y. test y ≡ false) x xs t (later kept)

-- After a stable sort, the elements that pass a test which ties stand as they stood.
pub stable_filter : {X : Type 0} (lt : X → X → Bool) (test : X → Bool) (xs ys : List X) → IsPermutation xs ys → IsStableBy lt xs ys
    → ((x y : X) → test x ≡ true → ties lt x y ≡ test y) → filter test ys ≡ filter test xs
stable_filter {X} lt test xs ys moved stable same = at (filter test xs) refl where
  at : (kept : List X) → filter test xs ≡ kept → filter test ys ≡ filter test xs
  at [] e = none_pass test ys (All-permutation (λ x. test x ≡ false) xs ys moved (none_passed test xs e)) ∙ sym e
  at (x ∷ rest) e =
      let passes : test x ≡ true = All-head (λ y. test y ≡ true) x rest (subst (λ (zs : List X). All (λ y. test y ≡ true) zs) e (filter_passes test xs)) in
      sym (filter_agree (ties lt x) test (λ y. same x y passes) ys) ∙ stable x ∙ filter_agree (ties lt x) test (λ y. same x y passes) xs
