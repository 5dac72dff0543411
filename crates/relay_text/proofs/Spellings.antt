-- Which check of a local part decides.
use Rattle.std.proofs.Common.{◌≡◌, ℕ, suc, ◌≤◌, Bool, true, false, not, cond, ◌&&◌, ◌||◌, ◌==◌, List, [], ◌∷◌, length, get_or, refl, sym, arith, ltb, Some, None}
use Rattle.std.specs.List.{list_all, position_or_len, position}
use Rattle.std.specs.Bool.{if◌then◌else◌}
use Rattle.std.specs.Option.{unwrap_or}
use Rattle.std.proofs.lemmas.Bool.{ltb-false, ne_eqb}
use Rattle.std.proofs.lemmas.List.Sums.{prefix_len-le-length}
use Rattle.relay_text.specs.Bytes.{begins_with}
use Rattle.relay_text.specs.Addresses.{is_empty, LocalCut, is_local_byte, is_quotable, is_atext, is_dot}

pub is_empty_is : {X : Type 0} (xs : List X) → is_empty xs ≡ (length xs == 0)
is_empty_is [] = refl
is_empty_is (x ∷ xs) = sym (ne_eqb (suc (length xs)) 0 (λ e. omega (arith, e)))

-- which bytes may stand in a local part is decided once for all of them
pub all_local_bytes : (cut : LocalCut) → list_all (is_local_byte cut) cut.raw ≡ cond cut.quoted (list_all is_quotable cut.raw) (list_all (λ b. is_atext b || is_dot b) cut.raw)
all_local_bytes cut = by_quoted cut.quoted where
  by_quoted : (q : Bool) → list_all (λ b. if q then is_quotable b else (is_atext b || is_dot b)) cut.raw ≡ cond q (list_all is_quotable cut.raw) (list_all (λ b. is_atext b || is_dot b) cut.raw)
  by_quoted true = refl
  by_quoted false = refl

and_true : (b : Bool) → b ≡ (b && true)
and_true true = refl
and_true false = refl

pub ends_before : (rest : List ℕ) → 1 ≤ length rest → (get_or rest 0 0 == 64) ≡ (is_empty rest || begins_with (64 ∷ []) rest)
ends_before [] h = absurd (omega arith)
ends_before (b ∷ bs) h = and_true (b == 64)

pub place_of : (p : ℕ → Bool) (xs : List ℕ) → unwrap_or (position p xs) (length xs) ≡ position_or_len p xs
place_of p xs = by_test (ltb (position_or_len p xs) (length xs)) refl where
  by_test : (t : Bool) → ltb (position_or_len p xs) (length xs) ≡ t → unwrap_or (cond t (Some (position_or_len p xs)) None) (length xs) ≡ position_or_len p xs
  by_test true h = refl
  by_test false h = omega (arith, ltb-false _ _ h, prefix_len-le-length (λ x. not (p x)) xs)

pub place_within : (p : ℕ → Bool) (xs : List ℕ) (place : ℕ) → place ≡ unwrap_or (position p xs) (length xs) → place ≤ length xs
place_within p xs place h = omega (arith, h, place_of p xs, prefix_len-le-length (λ x. not (p x)) xs)
