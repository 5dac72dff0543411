-- Folding: it changes no test that takes a capital and its small letter alike.
use Rattle.std.proofs.Common.{◌≡◌, ℕ, ◌+◌, Bool, not, cond, ◌&&◌, ◌||◌, ◌==◌, List, [], ◌∷◌, take, map, refl, ap, ◌∙◌, arith}
use Rattle.std.specs.List.{list_all, list_any, slice_split, position_or_len, before_first}
use Rattle.std.specs.Char.{is_ascii_alphanumeric, to_ascii_lowercase}
use Rattle.std.proofs.lemmas.List.{take-map}
use Rattle.std.proofs.lemmas.Bool.Decides.{nat_tests}
use Rattle.relay_text.specs.Bytes.{folded}
use Rattle.relay_text.specs.Addresses.{is_run_of, is_dot, is_domain_name}
use Rattle.relay_text.proofs.Folds.{IsFoldable, same_folded, is_run_of-folded, slice_split-folded}

abbrev pub is_label_byte : ℕ → Bool
is_label_byte b = is_ascii_alphanumeric b || (b == 45) || (b == 95)

is_label_byte-folds : IsFoldable is_label_byte
is_label_byte-folds b l u = grind (arith, nat_tests)

pub list_any-folded : (test : ℕ → Bool) → IsFoldable test → (xs : List ℕ) → list_any test (folded xs) ≡ list_any test xs
list_any-folded test h [] = refl
list_any-folded test h (b ∷ bs) = ap (λ t. t || list_any test (folded bs)) (same_folded test h b) ∙ ap (λ t. test b || t) (list_any-folded test h bs)

pub all_runs-folded : (test : ℕ → Bool) → IsFoldable test → (parts : List (List ℕ)) → list_all (is_run_of test) (map folded parts) ≡ list_all (is_run_of test) parts
all_runs-folded test h [] = refl
all_runs-folded test h (part ∷ parts) = ap (λ t. t && list_all (is_run_of test) (map folded parts)) (is_run_of-folded test h part) ∙ ap (λ t. is_run_of test part && t) (all_runs-folded test h parts)

pub is_domain_name-folded : (xs : List ℕ) → is_domain_name (folded xs) ≡ is_domain_name xs
is_domain_name-folded xs = ap (λ parts. list_all (is_run_of is_label_byte) parts) (slice_split-folded xs) ∙ all_runs-folded is_label_byte is_label_byte-folds (slice_split is_dot xs)

pub position_or_len-folded : (test : ℕ → Bool) → IsFoldable test → (xs : List ℕ) → position_or_len test (folded xs) ≡ position_or_len test xs
position_or_len-folded test h [] = refl
position_or_len-folded test h (b ∷ bs) =
    ap (λ t. cond (not t) (1 + position_or_len test (folded bs)) 0) (same_folded test h b)
    ∙ ap (λ n. cond (not (test b)) (1 + n) 0) (position_or_len-folded test h bs)

pub before_first-folded : (test : ℕ → Bool) → IsFoldable test → (xs : List ℕ) → before_first test (folded xs) ≡ folded (before_first test xs)
before_first-folded test h xs = ap (λ n. take n (folded xs)) (position_or_len-folded test h xs) ∙ take-map to_ascii_lowercase (position_or_len test xs) xs
