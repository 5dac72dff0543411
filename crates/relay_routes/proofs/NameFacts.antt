-- Nexthops that are a name alone.
use Rattle.std.proofs.Common.{◌≡◌, ℕ, ◌≤◌, Bool, true, false, ◌&&◌, ◌||◌, List, [], ◌∷◌, length, drop, refl, sym, ap, ◌∙◌, arith}
use Rattle.std.specs.Prelude.{Some}
use Rattle.std.specs.List.{list_all, list_any, slice_split, position_or_len, before_first}
use Rattle.std.proofs.lemmas.Bool.{and_parts, or_from, ltb-false}
use Rattle.std.proofs.lemmas.Bool.Decides.{nat_tests}
use Rattle.std.proofs.lemmas.List.{drop_all, length-drop}
use Rattle.relay_text.specs.Bytes.{folded}
use Rattle.relay_text.specs.Addresses.{is_domain_name, is_dot}
use Rattle.relay_text.proofs.Paths.{runs_bytes, split_bytes}
use Rattle.relay_routes.specs.Transports.{is_colon}
use Rattle.relay_routes.specs.Nexthops.{named_host, is_port}
use Rattle.relay_routes.proofs.Folding.{is_label_byte}
use Rattle.relay_routes.proofs.NexthopFacts.{nexthop_if}
use Rattle.relay_routes.proofs.Readings.{list_any-place, all_before}

abbrev is_name_byte : ℕ → Bool
is_name_byte b = is_label_byte b || is_dot b

not_colon : (b : ℕ) → is_name_byte b ≡ true → is_colon b ≡ false
not_colon b good = grind (arith, nat_tests)

no_colon : (text : List ℕ) → list_all is_name_byte text ≡ true → list_any is_colon text ≡ false
no_colon [] good = refl
no_colon (b ∷ bs) good =
    let parts : (is_name_byte b ≡ true) × (list_all is_name_byte bs ≡ true) = and_parts (is_name_byte b) (list_all is_name_byte bs) good in
    or_from (is_colon b) (list_any is_colon bs) (not_colon b parts.0) (no_colon bs parts.1)

-- The whole text stands before its first colon, and behind it no port.
pub bare_name : (text : List ℕ) → is_domain_name text ≡ true → Some (record { text = folded text; host = folded text; port = []; looks_up = true }) ≡ named_host text
bare_name text good =
    let none : list_any is_colon text ≡ false = no_colon text (split_bytes is_label_byte is_dot text (runs_bytes is_label_byte (slice_split is_dot text) good)) in
    let far : length text ≤ position_or_len is_colon text = ltb-false _ _ (sym (list_any-place is_colon text) ∙ none) in
    let whole : before_first is_colon text ≡ text = all_before is_colon text (omega (arith, length-drop (position_or_len is_colon text) text)) in
    let behind : drop (length (before_first is_colon text)) text ≡ [] = ap (λ (t : List ℕ). drop (length t) text) whole ∙ drop_all (length text) text (omega arith) in
    sym (
    ap (λ (host : List ℕ). nexthop_if (is_domain_name host && is_port (drop (length (before_first is_colon text)) text)) true text host (drop (length (before_first is_colon text)) text)) whole
    ∙ ap (λ (port : List ℕ). nexthop_if (is_domain_name text && is_port port) true text text port) behind
    ∙ ap (λ t. nexthop_if (t && true) true text text []) good)
