-- The bits of words.
use Rattle.std.proofs.Common.{◌≡◌, ◌≢◌, ℕ, zero, suc, ◌+◌, ◌*◌, ◌<◌, ◌≤◌, ◌%◌, ◌^◌, Bool, true, false, nat_eq, cond, List, [], ◌∷◌, arith, sym, refl, ap, ◌∙◌, ⊎_elim}
use Rattle.std.specs.Prelude.{filter}
use Rattle.std.specs.List.{range_with_len}
use Rattle.std.specs.Prelude.{bit_and, bit_or}
use Rattle.std.specs.Int.{bit_at, bit_not, w64, trailing_zeros}
use Rattle.std.proofs.lemmas.Bool.{cases_eq, cond-true, cond-false, ne_eqb}
use Rattle.std.proofs.lemmas.Bool.Decides.{Decides-eqb}
use Rattle.std.proofs.lemmas.Nat.Bits.{bit_at_set_same, bit_at_set_other, bit_at_clear_same, bit_at_clear_other, bit_at-trailing_zeros, bit_at-zero}
use Rattle.relay_rounds.specs.Bits.{is_set, bits_of}

set_from : (w i : ℕ) → bit_at w i ≡ 1 → is_set w i ≡ true
set_from w i e = (Decides-eqb (bit_at w i) 1).1 e

clear_from : (w i : ℕ) → bit_at w i ≡ 0 → is_set w i ≡ false
clear_from w i e = ne_eqb (bit_at w i) 1 (λ one. let z : ◌≡◌ {A = ℕ} 0 1 = sym e ∙ one in omega arith)

pub no_bit : (i : ℕ) → is_set 0 i ≡ false
no_bit i = clear_from 0 i (bit_at-zero i)

pub set_there : (w k : ℕ) → k < 64 → is_set (bit_or w (1 * 2 ^ k % 2 ^ 64)) k ≡ true
set_there w k within = set_from (bit_or w (1 * 2 ^ k % 2 ^ 64)) k (bit_at_set_same w64 w k within)

pub set_elsewhere : (w k i : ℕ) → k < 64 → i ≢ k → is_set (bit_or w (1 * 2 ^ k % 2 ^ 64)) i ≡ is_set w i
set_elsewhere w k i within apart = ap (λ (b : ℕ). nat_eq b 1) (bit_at_set_other w64 w k within i apart)

-- tests that agree on a range
same_filter : (p q : ℕ → Bool) (a n : ℕ) → ((i : ℕ) → a ≤ i → i < a + n → q i ≡ p i) → filter p (range_with_len a n) ≡ filter q (range_with_len a n)
same_filter p q a zero same = refl
same_filter p q a (suc n) same =
    ap (λ (b : Bool). cond b (a ∷ filter p (range_with_len (a + 1) n)) (filter p (range_with_len (a + 1) n))) (sym (same a (omega arith) (omega arith)))
    ∙ ap (λ (xs : List ℕ). cond (q a) (a ∷ xs) xs) (same_filter p q (a + 1) n (λ i low high. same i (omega arith) (omega arith)))

-- the first place that passes, and the others
first_left : (p q : ℕ → Bool) (t a n : ℕ) → ((i : ℕ) → i < t → p i ≡ false) → p t ≡ true → q t ≡ false → ((i : ℕ) → i < a + n → i ≢ t → q i ≡ p i)
    → a ≤ t → t < a + n → filter p (range_with_len a n) ≡ t ∷ filter q (range_with_len a n)
first_left p q t a zero below here gone same low high = absurd (omega arith)
first_left p q t a (suc n) below here gone same low high =
    ⊎_elim
    (λ e.
    let on : p a ≡ true = ap p (sym e) ∙ here in
    let off : q a ≡ false = ap q (sym e) ∙ gone in
    cond-true _ _ _ on ∙ ap (λ (xs : List ℕ). a ∷ xs) (same_filter p q (a + 1) n (λ i lo hi. same i (omega arith) (λ z. let o = z ∙ e in omega arith)))
    ∙ ap (λ (k : ℕ). k ∷ filter q (range_with_len (a + 1) n)) (sym e) ∙ ap (λ (xs : List ℕ). t ∷ xs) (sym (cond-false _ _ _ off)))
    (λ ne.
    let before : a < t = (let o : a ≢ t = λ z. ne (sym z) in omega arith) in
    let off : p a ≡ false = below a before in
    let off_q : q a ≡ false = same a (omega arith) (λ z. ne (sym z)) ∙ off in
    cond-false _ _ _ off ∙ first_left p q t (a + 1) n below here gone (λ i hi. same i (omega arith)) (omega arith) (omega arith)
    ∙ ap (λ (xs : List ℕ). t ∷ xs) (sym (cond-false _ _ _ off_q)))
    (cases_eq t a)

module _ (w : ℕ) (some : 0 < w) (fits : w < 2 ^ 64) where
  pub lowest_first : bits_of w ≡ trailing_zeros w64 w ∷ bits_of (bit_and w (bit_not w64 (1 * 2 ^ trailing_zeros w64 w % 2 ^ 64)))
  unfolding bits_of
  lowest_first =
      let t = bit_at-trailing_zeros w64 w some fits in
      let low : ℕ = trailing_zeros w64 w in
      let rest : ℕ = bit_and w (bit_not w64 (1 * 2 ^ low % 2 ^ 64)) in
      first_left (is_set w) (is_set rest) low 0 64 (λ i below. clear_from w i (t.2 i below)) (set_from w low t.1)
      (clear_from rest low (bit_at_clear_same w64 w low t.0))
      (λ i below apart. ap (λ (b : ℕ). nat_eq b 1) (bit_at_clear_other w64 w low t.0 i below apart))
      (omega arith) t.0

none_pass : (p : ℕ → Bool) (a n : ℕ) → ((i : ℕ) → p i ≡ false) → filter p (range_with_len a n) ≡ []
none_pass p a zero off = refl
none_pass p a (suc n) off = cond-false _ _ _ (off a) ∙ none_pass p (a + 1) n off

pub no_bits : (w : ℕ) → w ≡ 0 → bits_of w ≡ []
unfolding bits_of
no_bits w e = none_pass (is_set w) 0 64 (λ i. ap (λ (v : ℕ). is_set v i) e ∙ no_bit i)
