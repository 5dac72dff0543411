-- Host names that are kept by their first places.
use Rattle.std.proofs.Common.{◌≡◌, ℕ, ◌<◌, Bool, true, false, ◌||◌, ◌&&◌, cond, List, [], ◌∷◌, ◌++◌, length, refl, sym, ap, ◌∙◌, arith}
use Rattle.std.specs.Prelude.{not, filter}
use Rattle.std.specs.Str.{bytes_eq}
use Rattle.std.proofs.lemmas.Bool.{true≢false}
use Rattle.std.proofs.lemmas.List.{append_assoc, append-nil}
use Rattle.std.proofs.lemmas.List.Folds.{list_any-append}
use Rattle.std.proofs.lemmas.Slice.Eq.{bytes_eq-Decides}
use Rattle.relay_text.specs.Bytes.{has_text, firsts}
use Rattle.relay_routes.specs.Preferences.{with_hosts}
use Rattle.relay_routes.proofs.MxLookups.{bytes_eq_swap}

-- one test after another is one test
pub both_tests : {X : Type 0} (p q r : X → Bool) → ((x : X) → r x ≡ (q x && p x)) → (xs : List X) → filter p (filter q xs) ≡ filter r xs
both_tests p q r h [] = refl
both_tests {X} p q r h (x ∷ xs) = at (q x) (h x) (both_tests p q r h xs) where
  at : (b : Bool) → r x ≡ (b && p x) → filter p (filter q xs) ≡ filter r xs → filter p (cond b (x ∷ filter q xs) (filter q xs)) ≡ cond (r x) (x ∷ filter r xs) (filter r xs)
  at true e rest = ap (λ t. cond t (x ∷ filter p (filter q xs)) (filter p (filter q xs))) (sym e) ∙ ap (λ t. cond (r x) (x ∷ t) t) rest
  at false e rest = rest ∙ ap (λ t. cond t (x ∷ filter r xs) (filter r xs)) (sym e)

not_or : (a b c : Bool) → b ≡ c → not (a || (c || false)) ≡ (not b && not a)
not_or true true c e = refl
not_or true false c e = refl
not_or false true true e = refl
not_or false false false e = refl
not_or false true false e = absurd (true≢false e)
not_or false false true e = absurd (true≢false (sym e))

-- not among the hosts and the new one: neither the new one nor among the hosts
not_among : (hs : List (List ℕ)) (x y : List ℕ) → not (has_text (hs ++ x ∷ []) y) ≡ (not (bytes_eq x y) && not (has_text hs y))
not_among hs x y = ap (λ t. not t) (list_any-append (bytes_eq y) hs (x ∷ [])) ∙ not_or (has_text hs y) (bytes_eq x y) (bytes_eq y x) (bytes_eq_swap x y)

-- where the new one is among the hosts, what isn't among them isn't the new one
not_again : (hs : List (List ℕ)) (x y : List ℕ) → has_text hs x ≡ true → not (has_text hs y) ≡ (not (bytes_eq x y) && not (has_text hs y))
not_again hs x y e = at (bytes_eq x y) refl (has_text hs y) refl where
  at : (a : Bool) → bytes_eq x y ≡ a → (b : Bool) → has_text hs y ≡ b → not b ≡ (not a && not b)
  at false f b g = refl
  at true f true g = refl
  at true f false g = absurd (true≢false (sym e ∙ ap (has_text hs) ((bytes_eq-Decides x y).0 f) ∙ g))

-- hosts that are added one by one are those that were there, and then the first of each other
with_hosts-is : (hs xs : List (List ℕ)) → with_hosts hs xs ≡ hs ++ filter (λ y. not (has_text hs y)) (firsts bytes_eq xs)
with_hosts-is hs [] = sym (append-nil hs)
with_hosts-is hs (x ∷ xs) = at (has_text hs x) refl (with_hosts-is hs xs) (with_hosts-is (hs ++ x ∷ []) xs) where
  at : (b : Bool) → has_text hs x ≡ b
      → with_hosts hs xs ≡ hs ++ filter (λ y. not (has_text hs y)) (firsts bytes_eq xs)
      → with_hosts (hs ++ x ∷ []) xs ≡ (hs ++ x ∷ []) ++ filter (λ y. not (has_text (hs ++ x ∷ []) y)) (firsts bytes_eq xs)
      → with_hosts (cond b hs (hs ++ x ∷ [])) xs ≡ hs ++ cond (not b) (x ∷ filter (λ y. not (has_text hs y)) (filter (λ y. not (bytes_eq x y)) (firsts bytes_eq xs))) (filter (λ y. not (has_text hs y)) (filter (λ y. not (bytes_eq x y)) (firsts bytes_eq xs)))
  at true e was more = was ∙ ap (λ t. hs ++ t) (sym (both_tests (λ y. not (has_text hs y)) (λ y. not (bytes_eq x y)) (λ y. not (has_text hs y)) (λ y. not_again hs x y e) (firsts bytes_eq xs)))
  at false e was more = more ∙ append_assoc hs (x ∷ []) _ ∙ ap (λ t. hs ++ x ∷ t) (sym (both_tests (λ y. not (has_text hs y)) (λ y. not (bytes_eq x y)) (λ y. not (has_text (hs ++ x ∷ []) y)) (λ y. not_among hs x y) (firsts bytes_eq xs)))

all_kept : (xs : List (List ℕ)) → filter (λ y. true) xs ≡ xs
all_kept [] = refl
all_kept (x ∷ xs) = ap (λ t. x ∷ t) (all_kept xs)

pub with_hosts-none : (xs : List (List ℕ)) → with_hosts [] xs ≡ firsts bytes_eq xs
with_hosts-none xs = with_hosts-is [] xs ∙ all_kept (firsts bytes_eq xs)

pub firsts-some : {X : Type 0} (same : X → X → Bool) (xs : List X) → 0 < length xs → 0 < length (firsts same xs)
firsts-some same [] h = h
firsts-some same (x ∷ xs) h = omega arith

-- ---- hosts that are read again
swapped : {X : Type 0} (p q : X → Bool) (xs : List X) → filter p (filter q xs) ≡ filter q (filter p xs)
swapped p q xs = both_tests p q (λ x. q x && p x) (λ x. refl) xs ∙ sym (both_tests q p (λ x. q x && p x) (λ x. and_swap (q x) (p x)) xs) where
  and_swap : (a b : Bool) → (a && b) ≡ (b && a)
  and_swap true true = refl
  and_swap true false = refl
  and_swap false true = refl
  and_swap false false = refl

-- where a host doesn't pass a test, one that passes is another
passes_apart : (test : List ℕ → Bool) (x y : List ℕ) → test x ≡ false → test y ≡ (not (bytes_eq x y) && test y)
passes_apart test x y fails = at (bytes_eq x y) refl where
  at : (t : Bool) → bytes_eq x y ≡ t → test y ≡ (not t && test y)
  at true e = ap test (sym ((bytes_eq-Decides x y).0 e)) ∙ fails
  at false e = refl

-- A test keeps the first of each host, as it keeps hosts.
pub firsts-filter : (test : List ℕ → Bool) (xs : List (List ℕ)) → filter test (firsts bytes_eq xs) ≡ firsts bytes_eq (filter test xs)
firsts-filter test [] = refl
firsts-filter test (x ∷ xs) = at (test x) refl (firsts-filter test xs) where
  at : (t : Bool) → test x ≡ t → filter test (firsts bytes_eq xs) ≡ firsts bytes_eq (filter test xs)
      → cond t (x ∷ filter test (filter (λ y. not (bytes_eq x y)) (firsts bytes_eq xs))) (filter test (filter (λ y. not (bytes_eq x y)) (firsts bytes_eq xs))) ≡ firsts bytes_eq (cond t (x ∷ filter test xs) (filter test xs))
  at true e was = ap (λ hs. x ∷ hs) (swapped test (λ y. not (bytes_eq x y)) (firsts bytes_eq xs) ∙ ap (filter (λ y. not (bytes_eq x y))) was)
  at false e was = both_tests test (λ y. not (bytes_eq x y)) test (λ y. passes_apart test x y e) (firsts bytes_eq xs) ∙ was

pub firsts-firsts : (xs : List (List ℕ)) → firsts bytes_eq (firsts bytes_eq xs) ≡ firsts bytes_eq xs
firsts-firsts [] = refl
firsts-firsts (x ∷ xs) =
    let other = λ (y : List ℕ). not (bytes_eq x y) in
    ap (λ hs. x ∷ filter other hs) (sym (firsts-filter other (firsts bytes_eq xs)))
    ∙ ap (λ hs. x ∷ hs) (both_tests other other other (λ y. twice (other y)) (firsts bytes_eq (firsts bytes_eq xs)))
    ∙ ap (λ hs. x ∷ filter other hs) (firsts-firsts xs) where
      twice : (t : Bool) → t ≡ (t && t)
      twice true = refl
      twice false = refl

-- the hosts that no earlier one is
abbrev pub unseen : List (List ℕ) → List (List ℕ) → List (List ℕ)
unseen seen [] = []
unseen seen (x ∷ xs) = cond (has_text seen x) (unseen (seen ++ x ∷ []) xs) (x ∷ unseen (seen ++ x ∷ []) xs)

unseen-is : (seen xs : List (List ℕ)) → unseen seen xs ≡ filter (λ y. not (has_text seen y)) (firsts bytes_eq xs)
unseen-is seen [] = refl
unseen-is seen (x ∷ xs) =
    at (has_text seen x)
    (unseen-is (seen ++ x ∷ []) xs ∙ sym (both_tests (λ y. not (has_text seen y)) (λ y. not (bytes_eq x y)) (λ y. not (has_text (seen ++ x ∷ []) y)) (λ y. not_among seen x y) (firsts bytes_eq xs))) where
      at : (t : Bool) → unseen (seen ++ x ∷ []) xs ≡ filter (λ y. not (has_text seen y)) (filter (λ y. not (bytes_eq x y)) (firsts bytes_eq xs))
          → cond t (unseen (seen ++ x ∷ []) xs) (x ∷ unseen (seen ++ x ∷ []) xs)
          ≡ cond (not t) (x ∷ filter (λ y. not (has_text seen y)) (filter (λ y. not (bytes_eq x y)) (firsts bytes_eq xs))) (filter (λ y. not (has_text seen y)) (filter (λ y. not (bytes_eq x y)) (firsts bytes_eq xs)))
      at true later = later
      at false later = ap (λ hs. x ∷ hs) later

pub unseen-none : (xs : List (List ℕ)) → unseen [] xs ≡ firsts bytes_eq xs
unseen-none xs = unseen-is [] xs ∙ all_kept (firsts bytes_eq xs)

-- one more text in a set that has the hosts
pub has_more : (old new hosts : List (List ℕ)) (host : List ℕ) → ((q : List ℕ) → has_text new q ≡ (bytes_eq q host || has_text old q)) → ((q : List ℕ) → has_text old q ≡ has_text hosts q)
    → (q : List ℕ) → has_text new q ≡ has_text (hosts ++ host ∷ []) q
has_more old new hosts host more had q =
    more q ∙ ap (λ t. bytes_eq q host || t) (had q) ∙ turned (bytes_eq q host) (has_text hosts q) ∙ sym (list_any-append (bytes_eq q) hosts (host ∷ [])) where
      turned : (a b : Bool) → (a || b) ≡ (b || (a || false))
      turned true true = refl
      turned true false = refl
      turned false true = refl
      turned false false = refl
