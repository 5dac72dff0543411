-- Addresses in one row of bytes.
use Rattle.std.proofs.Common.{◌≡◌, ℕ, ◌+◌, ◌≤◌, Bool, true, false, ◌&&◌, ◌||◌, ◌==◌, not, List, [], ◌∷◌, ◌++◌, codes, length, take, drop, flat_map, refl, sym, ap, ◌∙◌, inl, inr, arith}
use Rattle.std.specs.Bool.{IsTrue}
use Rattle.std.specs.Char.{is_ascii_alphanumeric, is_ascii_graphic}
use Rattle.std.specs.List.{list_all, list_any, slice_split}
use Rattle.std.proofs.lemmas.Bool.{cases_Bool, and_parts, or_from, or_right, eqb-true, both_ways}
use Rattle.std.proofs.lemmas.List.{append_assoc, length-append, length-take, length-drop, take_at, drop_at}
use Rattle.std.proofs.lemmas.List.Folds.{list_any-append}
use Rattle.relay_text.specs.AddressParts.{AddressParts}
use Rattle.relay_text.specs.Addresses.{is_address, is_domain, is_domain_name, is_dot, is_dot_string, is_literal, inside, local_text_of, quoted_byte}
use Rattle.relay_text.specs.JoinedAddresses.{joined_text_of, parts_at, address_text_of}
use Rattle.relay_text.proofs.Domains.{is_domain-cases, is_literal-content}
use Rattle.relay_text.proofs.Paths.{runs_bytes, run_bytes, split_bytes, GoodParts, good_parts}
use Rattle.relay_text.proofs.Writing.{Limits, limits}

-- a byte among none of which the test is true isn't there
not_in : (q : ℕ → Bool) (c : ℕ) → q c ≡ false → (b : ℕ) → q b ≡ true → (b == c) ≡ false
not_in q c bad b good = elim (cases_Bool (b == c)) [
  | inl e ↦ absurd (both_ways (q c) bad (ap q (sym (eqb-true b c e)) ∙ good))
  | inr e ↦ e
]

none_in : (q : ℕ → Bool) (c : ℕ) → q c ≡ false → (text : List ℕ) → list_all q text ≡ true → list_any (λ b. b == c) text ≡ false
none_in q c bad [] good = refl
none_in q c bad (b ∷ bs) good =
    let parts : (q b ≡ true) × (list_all q bs ≡ true) = and_parts (q b) (list_all q bs) good in
    or_from (b == c) (list_any (λ x. x == c) bs) (not_in q c bad b parts.0) (none_in q c bad bs parts.1)

abbrev is_at : ℕ → Bool
is_at b = b == 64

abbrev is_label_byte : ℕ → Bool
is_label_byte b = is_ascii_alphanumeric b || (b == 45) || (b == 95)

abbrev is_literal_byte : ℕ → Bool
is_literal_byte b = is_ascii_graphic b && not (list_any (λ c. c == b) (codes "@[]\\"))

name_without_at : (text : List ℕ) → is_domain_name text ≡ true → list_any is_at text ≡ false
name_without_at text good =
    none_in (λ b. is_label_byte b || is_dot b) 64 refl text (split_bytes is_label_byte is_dot text (runs_bytes is_label_byte (slice_split is_dot text) good))

literal_without_at : (text : List ℕ) → is_literal text ≡ true → list_any is_at text ≡ false
literal_without_at text good =
    let parts = is_literal-content text good in
    let inner : list_any is_at (inside text) ≡ false = none_in is_literal_byte 64 refl (inside text) (run_bytes is_literal_byte (inside text) parts.1) in
    ap (list_any is_at) parts.0 ∙ list_any-append is_at (inside text) (93 ∷ []) ∙ or_from (list_any is_at (inside text)) (list_any is_at (93 ∷ [])) inner refl

pub domain_without_at : (text : List ℕ) → is_domain text ≡ true → list_any is_at text ≡ false
domain_without_at text good = elim (is_domain-cases text good) [ inl e ↦ name_without_at text e | inr e ↦ literal_without_at text e ]

behind_at : (xs e : List ℕ) → list_any is_at (xs ++ 64 ∷ e) ≡ true
behind_at xs e = list_any-append is_at xs (64 ∷ e) ∙ or_right (list_any is_at xs) (list_any is_at (64 ∷ e)) refl

same_rows : (l m d e : List ℕ) → list_any is_at d ≡ false → list_any is_at e ≡ false → l ++ 64 ∷ d ≡ m ++ 64 ∷ e → (l ≡ m) × (d ≡ e)
same_rows [] [] d e none_d none_e h = let tail : d ≡ e = cc in (refl, tail)
same_rows [] (y ∷ ys) d e none_d none_e h =
    let tail : d ≡ ys ++ 64 ∷ e = cc in
    absurd (both_ways (list_any is_at d) none_d (ap (list_any is_at) tail ∙ behind_at ys e))
same_rows (x ∷ xs) [] d e none_d none_e h =
    let tail : e ≡ xs ++ 64 ∷ d = cc in
    absurd (both_ways (list_any is_at e) none_e (ap (list_any is_at) tail ∙ behind_at xs d))
same_rows (x ∷ xs) (y ∷ ys) d e none_d none_e h =
    let tail : xs ++ 64 ∷ d ≡ ys ++ 64 ∷ e = cc in
    let head : x ≡ y = cc in
    let rest = same_rows xs ys d e none_d none_e tail in
    let front : x ∷ xs ≡ y ∷ ys = let more : xs ≡ ys = rest.0 in cc in
    (front, rest.1)

-- two addresses in the same row of bytes are one address
pub same_joined : (a b : AddressParts) → IsTrue (is_address a) → IsTrue (is_address b) → joined_text_of a ≡ joined_text_of b → a ≡ b
same_joined a b good_a good_b same =
    let parts_a : GoodParts a = good_parts a good_a in
    let parts_b : GoodParts b = good_parts b good_b in
    let both : (a.local ≡ b.local) × (a.domain ≡ b.domain) = same_rows a.local b.local a.domain b.domain (domain_without_at a.domain parts_a.domain) (domain_without_at b.domain parts_b.domain) same in
    let local : a.local ≡ b.local = both.0 in
    let domain : a.domain ≡ b.domain = both.1 in
    cc

-- the parts of a row
pub row_parts : (row local domain : List ℕ) (n : ℕ) → row ≡ local ++ 64 ∷ domain → n ≡ length local → parts_at n row ≡ record { local = local; domain = domain }
row_parts row local domain n is len =
    let front : take n row ≡ local = ap (take n) is ∙ take_at local (64 ∷ domain) n (sym len) in
    let back : drop (n + 1) row ≡ domain =
    ap (drop (n + 1)) (is ∙ sym (append_assoc local (64 ∷ []) domain))
    ∙ drop_at (local ++ 64 ∷ []) domain (n + 1) (omega (arith, len, length-append local (64 ∷ []))) in
    cc

-- a local part within its limits
pub local_len_fits : (n : ℕ) (text : List ℕ) → text ≡ joined_text_of (parts_at n text) → IsTrue (is_address (parts_at n text)) → n ≤ 64
local_len_fits n text row good =
    let at : Limits (parts_at n text) = limits (parts_at n text) good in
    omega (arith, at.local, ap length row, length-take n text, length-drop (n + 1) text, length-append (take n text) (64 ∷ drop (n + 1) text))

-- what stands between the brackets of a path
pub address_text_plain : (a : AddressParts) → is_dot_string a.local ≡ true → address_text_of a ≡ joined_text_of a
unfolding local_text_of
address_text_plain a plain = rw plain refl

pub address_text_quoted : (a : AddressParts) → is_dot_string a.local ≡ false → address_text_of a ≡ (34 ∷ flat_map quoted_byte a.local ++ 34 ∷ []) ++ 64 ∷ a.domain
unfolding local_text_of
address_text_quoted a quoted = rw quoted refl

pub address_text_length : (a : AddressParts) → length (address_text_of a) ≡ length (local_text_of a.local) + length a.domain + 1
address_text_length a = omega (arith, length-append (local_text_of a.local) (64 ∷ a.domain))

pub quoted_text_length : (a : AddressParts) → is_dot_string a.local ≡ false → length (address_text_of a) ≡ length (flat_map quoted_byte a.local) + 2 + (length a.domain + 1)
quoted_text_length a quoted =
    omega (arith, ap length (address_text_quoted a quoted), length-append (34 ∷ flat_map quoted_byte a.local ++ 34 ∷ []) (64 ∷ a.domain), length-append (34 ∷ flat_map quoted_byte a.local) (34 ∷ []))

-- what is written piece by piece of an address whose local part stands between quotes
pub four_pieces : (a : AddressParts) (out quoted at domain : List ℕ) → is_dot_string a.local ≡ false → quoted ≡ out ++ (34 ∷ flat_map quoted_byte a.local ++ 34 ∷ []) → at ≡ quoted ++ 64 ∷ []
    → domain ≡ at ++ a.domain → domain ≡ out ++ address_text_of a
four_pieces a out quoted at domain is_quoted q t d =
    let local : List ℕ = 34 ∷ flat_map quoted_byte a.local ++ 34 ∷ [] in
    d ∙ ap (λ (front : List ℕ). front ++ a.domain) (t ∙ ap (λ (front : List ℕ). front ++ 64 ∷ []) q)
    ∙ append_assoc (out ++ local) (64 ∷ []) a.domain
    ∙ append_assoc out local (64 ∷ a.domain)
    ∙ ap (λ (text : List ℕ). out ++ text) (sym (address_text_quoted a is_quoted))
