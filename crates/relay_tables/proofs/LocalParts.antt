-- Local parts that an address at the origin can have.
use Rattle.std.proofs.Common.{◌≡◌, ℕ, ◌+◌, ◌≤◌, Bool, true, false, not, cond, ◌&&◌, ◌||◌, ◌==◌, ltb, leb, List, [], ◌∷◌, ◌++◌, length, map, Some, refl, sym, ap, ◌∙◌, arith}
use Rattle.std.specs.Bool.{IsTrue}
use Rattle.std.specs.Prelude.{flat_map}
use Rattle.std.specs.List.{list_all, slice_split}
use Rattle.std.specs.Char.{to_ascii_lowercase}
use Rattle.std.specs.Str.{bytes_eq}
use Rattle.std.proofs.lemmas.Bool.{and_parts, and_from, not-true, ltb-false, le-ltb, leb-true, or_from, or_parts}
use Rattle.std.proofs.lemmas.Bool.Decides.{nat_tests}
use Rattle.std.proofs.lemmas.List.{length-append, length-map}
use Rattle.relay_text.specs.Bytes.{folded}
use Rattle.relay_text.specs.AddressParts.{AddressParts}
use Rattle.relay_text.specs.Addresses.{is_address, is_origin, is_domain, is_empty, is_quotable, is_atext, is_dot, is_run_of, is_dot_string, is_local_too_long, is_domain_too_long, quoted_byte, local_text_of, path_text_of}
use Rattle.relay_text.proofs.Folds.{IsFoldable, same_folded, list_all-folded, is_run_of-folded, slice_split-folded}
use Rattle.relay_tables.specs.Parts.{is_local_part}

negated : (b : Bool) → b ≡ false → not b ≡ true
negated b e = ap not e

-- the domain of an address has at most 255 octets
pub domain_within : (a : AddressParts) → IsTrue (is_address a) → length a.domain ≤ 255
unfolding is_address
domain_within a h =
    let long : Bool = ltb 256 (length (path_text_of (Some a))) in
    let fits = and_parts _ (not (is_domain_too_long a.local (Some a.domain))) h in
    ltb-false 255 (length a.domain) (or_parts (ltb 255 (length a.domain)) long (not-true _ fits.1)).0

path_text_length : (local domain : List ℕ) → length (path_text_of (Some (record { local = local; domain = domain }))) ≡ length (local_text_of local) + length domain + 3
path_text_length local domain =
    let text = local_text_of local in
    omega (arith, length-append text (64 ∷ []), length-append (text ++ 64 ∷ []) domain, length-append (text ++ 64 ∷ [] ++ domain) (62 ∷ []))

-- what is too long stays too long, and what fits an origin of at most 189 octets fits
domain_fits : (local origin : List ℕ) → is_local_too_long local ≡ false → length origin ≤ 189 → is_domain_too_long local (Some origin) ≡ false
domain_fits local origin short within =
    let written : length (local_text_of local) ≤ 64 = ltb-false 64 _ short in
    or_from (ltb 255 (length origin)) (ltb 256 (length (path_text_of (Some (record { local = local; domain = origin })))))
    (le-ltb 255 (length origin) (omega arith))
    (le-ltb 256 _ (omega (arith, path_text_length local origin)))

-- a local part and an origin are an address
pub address-at_origin : (local origin : List ℕ) → IsTrue (is_local_part local) → IsTrue (is_origin origin) → IsTrue (is_address (record { local = local; domain = origin }))
unfolding is_address is_local_part is_origin
address-at_origin local origin part from =
    let o = and_parts (is_domain origin && bytes_eq (folded origin) origin) (leb (length origin) 189) from in
    let domain = and_parts (is_domain origin) (bytes_eq (folded origin) origin) o.0 in
    let p = and_parts (not (is_empty local) && list_all is_quotable local) (not (is_local_too_long local)) part in
    let short = not-true _ p.1 in
    and_from _ _
    (and_from _ _ (and_from _ _ (and_from _ _ p.0 domain.0) domain.1) p.1)
    (negated _ (domain_fits local origin short (leb-true _ _ o.1)))

-- the local part of an address is one
pub is_local_part-address : (a : AddressParts) → IsTrue (is_address a) → IsTrue (is_local_part a.local)
unfolding is_address is_local_part
is_local_part-address a h =
    let w = and_parts (not (is_empty a.local) && list_all is_quotable a.local && is_domain a.domain && bytes_eq (folded a.domain) a.domain && not (is_local_too_long a.local)) (not (is_domain_too_long a.local (Some a.domain))) h in
    let x = and_parts (not (is_empty a.local) && list_all is_quotable a.local && is_domain a.domain && bytes_eq (folded a.domain) a.domain) (not (is_local_too_long a.local)) w.0 in
    let y = and_parts (not (is_empty a.local) && list_all is_quotable a.local && is_domain a.domain) (bytes_eq (folded a.domain) a.domain) x.0 in
    let z = and_parts (not (is_empty a.local) && list_all is_quotable a.local) (is_domain a.domain) y.0 in
    and_from _ _ z.0 x.1

-- folding keeps a local part one: no test of its bytes changes, and its spelling has the same length
is_quotable-folds : IsFoldable is_quotable
is_quotable-folds b l u = grind (arith, nat_tests)

is_atext-folds : IsFoldable is_atext
is_atext-folds b l u = grind (arith, nat_tests)

is_empty-folded : (xs : List ℕ) → is_empty (folded xs) ≡ is_empty xs
is_empty-folded [] = refl
is_empty-folded (b ∷ bs) = refl

all_runs-folded : (parts : List (List ℕ)) → list_all (is_run_of is_atext) (map folded parts) ≡ list_all (is_run_of is_atext) parts
all_runs-folded [] = refl
all_runs-folded (part ∷ parts) =
    ap (λ t. t && list_all (is_run_of is_atext) (map folded parts)) (is_run_of-folded is_atext is_atext-folds part)
    ∙ ap (λ t. is_run_of is_atext part && t) (all_runs-folded parts)

is_dot_string-folded : (xs : List ℕ) → is_dot_string (folded xs) ≡ is_dot_string xs
is_dot_string-folded xs = ap (λ parts. list_all (is_run_of is_atext) parts) (slice_split-folded xs) ∙ all_runs-folded (slice_split is_dot xs)

is_escaped-folds : IsFoldable (λ b. (b == 34) || (b == 92))
is_escaped-folds b l u = grind (arith, nat_tests)

length-escape : (t : Bool) (b c : ℕ) → length (cond t (92 ∷ b ∷ []) (b ∷ [])) ≡ length (cond t (92 ∷ c ∷ []) (c ∷ []))
length-escape true b c = refl
length-escape false b c = refl

length-quoted_byte : (b : ℕ) → length (quoted_byte (to_ascii_lowercase b)) ≡ length (quoted_byte b)
length-quoted_byte b =
    ap (λ t. length (cond t (92 ∷ to_ascii_lowercase b ∷ []) (to_ascii_lowercase b ∷ []))) (same_folded (λ c. (c == 34) || (c == 92)) is_escaped-folds b)
    ∙ length-escape ((b == 34) || (b == 92)) (to_ascii_lowercase b) b

length-escaped : (xs : List ℕ) → length (flat_map quoted_byte (folded xs)) ≡ length (flat_map quoted_byte xs)
length-escaped [] = refl
length-escaped (b ∷ bs) =
    length-append (quoted_byte (to_ascii_lowercase b)) (flat_map quoted_byte (folded bs))
    ∙ ap (λ n. n + length (flat_map quoted_byte (folded bs))) (length-quoted_byte b)
    ∙ ap (λ n. length (quoted_byte b) + n) (length-escaped bs)
    ∙ sym (length-append (quoted_byte b) (flat_map quoted_byte bs))

length-spelling : (t : Bool) (xs ys us vs : List ℕ) → length xs ≡ length ys → length us ≡ length vs → length (cond t xs (34 ∷ us ++ 34 ∷ [])) ≡ length (cond t ys (34 ∷ vs ++ 34 ∷ []))
length-spelling true xs ys us vs e f = e
length-spelling false xs ys us vs e f = omega (arith, f, length-append us (34 ∷ []), length-append vs (34 ∷ []))

length-local_text : (xs : List ℕ) → length (local_text_of (folded xs)) ≡ length (local_text_of xs)
unfolding local_text_of
length-local_text xs =
    ap (λ t. length (cond t (folded xs) (34 ∷ flat_map quoted_byte (folded xs) ++ 34 ∷ []))) (is_dot_string-folded xs)
    ∙ length-spelling (is_dot_string xs) (folded xs) xs (flat_map quoted_byte (folded xs)) (flat_map quoted_byte xs) (length-map xs to_ascii_lowercase) (length-escaped xs)

pub is_local_part-folded : (local : List ℕ) → IsTrue (is_local_part local) → IsTrue (is_local_part (folded local))
unfolding is_local_part
is_local_part-folded local h =
    let p = and_parts (not (is_empty local) && list_all is_quotable local) (not (is_local_too_long local)) h in
    let q = and_parts (not (is_empty local)) (list_all is_quotable local) p.0 in
    and_from _ _
    (and_from _ _ (ap not (is_empty-folded local) ∙ q.0) (list_all-folded is_quotable is_quotable-folds local ∙ q.1))
    (ap (λ n. not (ltb 64 n)) (length-local_text local) ∙ p.1)
