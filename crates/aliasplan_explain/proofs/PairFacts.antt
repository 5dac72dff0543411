-- What holds of two values, of which the second may have failed.
use Rattle.std.proofs.Common.{◌≡◌, Result, Ok, Err, IfOk, subst}
use Rattle.std.specs.Result.{IfErr}
use Rattle.std.proofs.lemmas.Result.{IfErr-at_err, IfOk-at_ok}

module _ {A B E : Type 0} (first : A) (second : Result B E) where
  pub first_is : (r : Result (A × B) E) (P : A → Type 0) → IfOk r (λ both. (first ≡ both.0) × (second ≡ Ok both.1)) → P first → IfOk r (λ both. P both.0)
  first_is (Ok both) P are h = subst P are.0 h
  first_is (Err e) P are h = are

  pub second_is : (r : Result (A × B) E) (P : B → Type 0) → IfOk r (λ both. (first ≡ both.0) × (second ≡ Ok both.1)) → IfOk second P → IfOk r (λ both. P both.1)
  second_is (Ok both) P are h = IfOk-at_ok P are.1 h
  second_is (Err e) P are h = are

  pub both_are : (r : Result (A × B) E) (P : A → B → Type 0) → IfOk r (λ both. (first ≡ both.0) × (second ≡ Ok both.1)) → IfOk second (P first) → IfOk r (λ both. P both.0 both.1)
  both_are (Ok both) P are h = subst (λ (a : A). P a both.1) are.0 (IfOk-at_ok (P first) are.1 h)
  both_are (Err e) P are h = are

pub fault_is : {A B E : Type 0} (second : Result B E) (r : Result A E) (P : E → Type 0) → IfErr r (λ fault. second ≡ Err fault) → IfErr second P → IfErr r P
fault_is second (Ok a) P is h = is
fault_is second (Err e) P is h = IfErr-at_err P is h
