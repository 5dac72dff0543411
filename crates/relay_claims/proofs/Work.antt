-- For callers: the places of a piece, claimed one after another, and the work of two seats.
use Rattle.std.proofs.Common.{◌≡◌, ℕ, suc, ◌+◌, ◌-◌, ◌<◌, ◌≤◌, List, [], ◌∷◌, ◌++◌, ap, ◌∙◌, arith}
use Rattle.std.proofs.lemmas.Bool.Decides.{nat_tests}
use Rattle.relay_claims.specs.declared.view.Settled.{Settled}
use Rattle.relay_claims.specs.Counting.{times, IsIn, span, once_below}
use Rattle.relay_claims.specs.Settled.{settled, places_of}
use Rattle.relay_claims.specs.View.{back}
use Rattle.relay_claims.specs.Seat.{Progress, first_half, second_half, joined}
use Rattle.relay_claims.specs.Work.{ClaimsTheRest}
use Rattle.relay_claims.proofs.Counts.{times_append, times_span}
use Rattle.relay_claims.proofs.Looks.{claimed_append}

here : (j : ℕ) → times j (j ∷ []) ≡ 1
here j = grind (arith, nat_tests)

at_most : (x m : ℕ) → once_below x m ≤ 1
at_most x m = grind (arith, nat_tests)

-- the places from j on are j, and those from j + 1 on
pub span_more : (x j end : ℕ) → j < end → times x (span j (end - j)) ≡ times x (j ∷ []) + times x (span (j + 1) (end - (j + 1)))
span_more x j end h = ap (λ (n : ℕ). times x (span j n)) (let z : end - j ≡ suc (end - (j + 1)) = omega arith in z) ∙ (let s : times x (j ∷ span (j + 1) (end - (j + 1))) ≡ times x (j ∷ []) + times x (span (j + 1) (end - (j + 1))) = omega arith in s)

-- a piece has no place twice
pub span_once : (x a k : ℕ) → times x (span a k) ≤ 1
span_once x a k = let h = times_span x a k in let o = at_most x (a + k) in omega arith

-- where only the places from j on are not claimed, j is drawn and not claimed
pub to_claim : (j end : ℕ) (claims drawn : List ℕ) → j < end → ((x : ℕ) → times x claims + times x (span j (end - j)) ≡ times x drawn) → times j drawn ≤ 1 → IsIn j drawn × (times j claims ≡ 0)
to_claim j end claims drawn h left once = let l = left j in let s = span_more j j end h in let o = here j in (omega arith, omega arith)

-- one more claim
pub claims_one : (x j i : ℕ) (ps : List Settled) → times x (places_of (ps ++ settled j i ∷ [])) ≡ times x (places_of ps) + times x (j ∷ [])
claims_one x j i ps = ap (λ (l : List ℕ). times x l) (claimed_append ps (settled j i ∷ [])) ∙ times_append x (places_of ps) (j ∷ [])

claimed_both : (ps qs : List Settled) (xs ys : List ℕ) → ((x : ℕ) → times x (places_of ps) ≡ times x xs) → ((x : ℕ) → times x (places_of qs) ≡ times x ys) → (x : ℕ) → times x (places_of (ps ++ qs)) ≡ times x (xs ++ ys)
claimed_both ps qs xs ys a b x = let p = a x in let q = b x in let d = times_append x xs ys in
    let c : times x (places_of (ps ++ qs)) ≡ times x (places_of ps) + times x (places_of qs) = ap (λ (l : List ℕ). times x l) (claimed_append ps qs) ∙ times_append x (places_of ps) (places_of qs) in omega arith

-- the work of both halves is the work of the whole
pub rest_of_both : (s one two : Progress) → ClaimsTheRest (first_half s) one → ClaimsTheRest (second_half s) two → ClaimsTheRest s (joined one two)
rest_of_both s one two a b = record {
  round = a.round;
  position = ap back a.position;
  last = (let x = a.last in let y = b.last in omega arith);
  claimed = claimed_both one.settled two.settled one.drawn two.drawn a.claimed b.claimed;
}
