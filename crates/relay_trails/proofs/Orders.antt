-- The order of trails.
use Rattle.std.proofs.Common.{◌≡◌, ℕ, ◌+◌, ◌<◌, List, [], ◌∷◌, ◌++◌, length, refl, sym, ap, ◌∙◌, subst, inl, inr, arith}
use Rattle.std.proofs.lemmas.List.{length-append}
use Rattle.relay_trails.specs.Trails.{Trail, IsBefore, IsLess}
use Rattle.relay_trails.specs.Steps.{with_item}
use Rattle.relay_trails.specs.Searches.{IsAtMost}

before_append : (xs ys us vs : List ℕ) → IsBefore xs ys → IsBefore (xs ++ us) (ys ++ vs)
before_append [] ys us vs h = elim h [ ]
before_append (x ∷ xs) [] us vs h = elim h [ ]
before_append (x ∷ xs) (y ∷ ys) us vs h = elim h [ inl less ↦ inl less | inr r ↦ inr (r.0, before_append xs ys us vs r.1) ]

before_last : (xs : List ℕ) (i j : ℕ) → i < j → IsBefore (xs ++ i ∷ []) (xs ++ j ∷ [])
before_last [] i j h = inl h
before_last (x ∷ xs) i j h = inr (refl, before_last xs i j h)

before_trans : (xs ys zs : List ℕ) → IsBefore xs ys → IsBefore ys zs → IsBefore xs zs
before_trans [] ys zs h k = elim h [ ]
before_trans (x ∷ xs) [] zs h k = elim h [ ]
before_trans (x ∷ xs) (y ∷ ys) [] h k = elim k [ ]
before_trans (x ∷ xs) (y ∷ ys) (z ∷ zs) h k =
    elim h [
      | inl a ↦ elim k [ inl b ↦ inl (omega arith) | inr b ↦ let e = b.0 in inl (omega arith) ]
      | inr a ↦
          let d = a.0 in
          elim k [ inl b ↦ inl (omega arith) | inr b ↦ inr (d ∙ b.0, before_trans xs ys zs a.1 b.1) ]
    ]

not_before : (xs : List ℕ) → IsBefore xs xs → ⊥
not_before [] h = h
not_before (x ∷ xs) h = elim h [ inl less ↦ omega arith | inr r ↦ not_before xs r.1 ]

less_trans : (t u v : Trail) → IsLess t u → IsLess u v → IsLess t v
less_trans t u v h k =
    elim h [
      | inl a ↦ elim k [ inl b ↦ inl (omega arith) | inr b ↦ let e = b.0 in inl (omega arith) ]
      | inr a ↦
          let d = a.0 in
          elim k [ inl b ↦ inl (omega arith) | inr b ↦ inr (d ∙ b.0, before_trans (t.recipient ∷ t.items) (u.recipient ∷ u.items) (v.recipient ∷ v.items) a.1 b.1) ]
    ]

not_less : (t : Trail) → IsLess t t → ⊥
not_less t h = elim h [ inl less ↦ omega arith | inr r ↦ not_before (t.recipient ∷ t.items) r.1 ]

pub at_most_trans : (t u v : Trail) → IsAtMost t u → IsAtMost u v → IsAtMost t v
at_most_trans t u v h k =
    elim h [
      | inl a ↦ elim k [ inl b ↦ inl (less_trans t u v a b) | inr b ↦ inl (subst (IsLess t) b a) ]
      | inr a ↦ subst (λ (w : Trail). IsAtMost w v) (sym a) k
    ]

-- none is less than a trail that is at most it
pub at_most_least : (t u : Trail) → IsAtMost t u → IsLess u t → ⊥
at_most_least t u h k = elim h [ inl a ↦ not_less t (less_trans t u t a k) | inr a ↦ not_less t (subst (λ (w : Trail). IsLess w t) (sym a) k) ]

pub recipients_less : (q r : ℕ) → q < r → IsLess (record { recipient = q; items = [] }) (record { recipient = r; items = [] })
recipients_less q r h = inr (refl, inl h)

pub recipient_less : (q : ℕ) (t : Trail) (i : ℕ) → IsLess (record { recipient = q; items = [] }) (with_item t i)
recipient_less q t i = inl (omega (arith, length-append t.items (i ∷ [])))

pub less_item : (t u : Trail) (i j : ℕ) → IsLess t u → IsLess (with_item t i) (with_item u j)
less_item t u i j h =
    let a : length (t.items ++ i ∷ []) ≡ length t.items + 1 = length-append t.items (i ∷ []) in
    let b : length (u.items ++ j ∷ []) ≡ length u.items + 1 = length-append u.items (j ∷ []) in
    elim h [
      | inl less ↦ inl (omega arith)
      | inr r ↦
          let e = r.0 in
          inr (omega arith, before_append (t.recipient ∷ t.items) (u.recipient ∷ u.items) (i ∷ []) (j ∷ []) r.1)
    ]

pub item_less : (t : Trail) (i j : ℕ) → i < j → IsLess (with_item t i) (with_item t j)
item_less t i j h =
    let a : length (t.items ++ i ∷ []) ≡ length t.items + 1 = length-append t.items (i ∷ []) in
    let b : length (t.items ++ j ∷ []) ≡ length t.items + 1 = length-append t.items (j ∷ []) in
    inr (omega arith, before_last (t.recipient ∷ t.items) i j h)

pub at_most_item : (t u : Trail) (i : ℕ) → IsAtMost t u → IsAtMost (with_item t i) (with_item u i)
at_most_item t u i h = elim h [ inl less ↦ inl (less_item t u i i less) | inr same ↦ inr (ap (λ (w : Trail). with_item w i) same) ]
