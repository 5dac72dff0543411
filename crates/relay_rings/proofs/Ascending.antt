-- Placed items each of which comes before the next one are in order.
use Rattle.std.proofs.Common.{◌≡◌, ℕ, ◌+◌, ◌-◌, ◌<◌, ◌&&◌, eqb, ltb, List, length, get_or, IsTrue, sym, subst, arith, zero, suc, inl, inr}
use Rattle.std.proofs.lemmas.Bool.{or_left, or_right, and_from, lt-ltb, eq-eqb}
use Rattle.std.proofs.lemmas.List.{get_or_default}
use Rattle.relay_rings.specs.Batches.{comes_before, IsAscendingPlaced}
use Rattle.relay_rings.specs.declared.batching.Placed.{Placed}
use Rattle.relay_rings.proofs.GroupLemmas.{comes_cases}

by_key : (p q : Placed) → p.key < q.key → IsTrue (comes_before p q)
by_key p q l = or_left (ltb p.key q.key) (eqb p.key q.key && ltb p.item q.item) (lt-ltb p.key q.key l)

by_item : (p q : Placed) → p.key ≡ q.key → p.item < q.item → IsTrue (comes_before p q)
by_item p q e l = or_right (ltb p.key q.key) (eqb p.key q.key && ltb p.item q.item) (and_from (eqb p.key q.key) (ltb p.item q.item) (eq-eqb p.key q.key e) (lt-ltb p.item q.item l))

comes_trans : (p q r : Placed) → IsTrue (comes_before p q) → IsTrue (comes_before q r) → IsTrue (comes_before p r)
comes_trans p q r a b =
    elim (comes_cases p q a) [
      | inl l ↦ elim (comes_cases q r b) [ inl m ↦ by_key p r (omega arith) | inr m ↦ by_key p r (omega (arith, m.0)) ]
      | inr l ↦ elim (comes_cases q r b) [ inl m ↦ by_key p r (omega (arith, l.0)) | inr m ↦ by_item p r (omega (arith, l.0, m.0)) (omega (arith, l.1, m.1)) ]
    ]

-- each of the first n + 1 comes before the next one
abbrev pub Climbs : List Placed → ℕ → Type 0
Climbs placed n = (k : ℕ) → k < n → k + 1 < length placed → IsTrue (comes_before (get_or placed k (record { key = 0; item = 0 })) (get_or placed (k + 1) (record { key = 0; item = 0 })))

far : (placed : List Placed) → Climbs placed (length placed) → (i n : ℕ) → i + n + 1 < length placed → IsTrue (comes_before (get_or placed i (record { key = 0; item = 0 })) (get_or placed (i + n + 1) (record { key = 0; item = 0 })))
far placed up i zero b =
    let e : i + zero + 1 ≡ i + 1 = omega arith in
    subst (λ j. IsTrue (comes_before (get_or placed i (record { key = 0; item = 0 })) (get_or placed j (record { key = 0; item = 0 })))) (sym e) (up i (omega arith) (omega arith))
far placed up i (suc n) b =
    let e : i + suc n + 1 ≡ i + n + 1 + 1 = omega arith in
    subst (λ j. IsTrue (comes_before (get_or placed i (record { key = 0; item = 0 })) (get_or placed j (record { key = 0; item = 0 })))) (sym e)
    (comes_trans (get_or placed i (record { key = 0; item = 0 })) (get_or placed (i + n + 1) (record { key = 0; item = 0 })) (get_or placed (i + n + 1 + 1) (record { key = 0; item = 0 })) (far placed up i n (omega arith)) (up (i + n + 1) (omega arith) (omega arith)))

pub ascending_from_climbs : (placed : List Placed) → Climbs placed (length placed) → IsAscendingPlaced placed
ascending_from_climbs placed up i j d a b =
    let blank : Placed = record { key = 0; item = 0 } in
    let n = j - i - 1 in
    let e : i + n + 1 ≡ j = omega arith in
    let r = subst (λ k. IsTrue (comes_before (get_or placed i blank) (get_or placed k blank))) e (far placed up i n (omega arith)) in
    let first = subst (λ (p : Placed). IsTrue (comes_before p (get_or placed j blank))) (get_or_default placed i blank d (omega arith)) r in
    subst (λ (q : Placed). IsTrue (comes_before (get_or placed i d) q)) (get_or_default placed j blank d b) first
