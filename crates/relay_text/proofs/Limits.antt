-- Limits: what is too long, by the lengths that the code compares, and that an address is one.
use Rattle.std.proofs.Common.{◌≡◌, ℕ, suc, ◌+◌, ◌<◌, ◌≤◌, Bool, true, false, not, cond, ◌&&◌, ◌||◌, ◌==◌, ltb, leb, List, [], ◌∷◌, ◌++◌, length, take, drop, refl, sym, ap, ◌∙◌, arith, Some, None, Ok, Err, Option, Result, codes, inl, inr}
use Rattle.std.specs.List.{list_all, list_any, before_first}
use Rattle.std.specs.Bool.{IsTrue, if◌then◌else◌}
use Rattle.std.specs.Option.{unwrap_or}
use Rattle.std.specs.Str.{bytes_eq}
use Rattle.std.specs.Char.{is_ascii_alphanumeric}
use Rattle.std.proofs.lemmas.Slice.Eq.{bytes_eq-Decides}
use Rattle.std.proofs.lemmas.List.{length-map, take_at, drop_at}
use Rattle.std.proofs.lemmas.Bool.{not-true, not-false, or_parts, or_cases, and_parts, and_from, ltb-false, lt-ltb, le-ltb, leb-true, le-leb, eqb-true, or_left, or_right, or_from}
use Rattle.std.proofs.lemmas.Bool.Decides.{nat_tests}
use Rattle.relay_text.specs.Bytes.{folded}
use Rattle.relay_text.specs.AddressParts.{AddressParts}
use Rattle.relay_text.specs.Quotes.{Mark, marks, marks_from, bytes_of, is_quote, without_escapes}
use Rattle.relay_text.specs.Addresses.{local_cut, quoted_cut, plain_cut, local_of, LocalCut, is_empty, is_local_byte, is_atext, is_dot, is_quotable, is_domain, is_bad_domain, is_local_too_long, is_domain_too_long, spelled_domain, is_address, is_origin, local_text_of, path_text_of, address_of}
use Rattle.relay_text.specs.declared.fault.TextFault.{TextFault}
use Rattle.relay_text.specs.declared.fault.TextFault.TheVariants.{Empty, BadByte, BadQuote, TooLong}
use Rattle.relay_text.proofs.Folds.{folded-folded}
use Rattle.relay_text.proofs.QuoteMarks.{kept_from, without_escapes-kept}
use Rattle.relay_text.proofs.Spellings.{all_local_bytes, is_empty_is}
use Rattle.relay_text.proofs.Writing.{local_text_longer, path_text_length}
use Rattle.relay_text.proofs.Faults.{local_check, address-too_long, address-ok}

abbrev pub path_len : List ℕ → List ℕ → ℕ
path_len local domain = length (path_text_of (Some (record { local = local; domain = domain })))

pub local_too_long : (local : List ℕ) (written : ℕ) → written ≡ length (local_text_of local) → 64 < written → is_local_too_long local ≡ true
local_too_long local written h long = lt-ltb 64 _ (omega (arith, h))

pub local_fits : (local : List ℕ) (written : ℕ) → written ≡ length (local_text_of local) → written ≤ 64 → is_local_too_long local ≡ false
local_fits local written h short = le-ltb 64 _ (omega (arith, h))

-- what an origin is
pub origin_parts : (origin : List ℕ) → IsTrue (is_origin origin) → (is_domain origin ≡ true) × (folded origin ≡ origin) × (length origin ≤ 189)
unfolding is_origin
origin_parts origin h =
    let front = and_parts (is_domain origin && bytes_eq (folded origin) origin) (leb (length origin) 189) h in
    let parts = and_parts (is_domain origin) (bytes_eq (folded origin) origin) front.0 in
    (parts.0, (bytes_eq-Decides _ _).0 parts.1, leb-true _ _ front.1)

-- which domain an address has, and its length before it's folded
length-domain : (given : Option (List ℕ)) (origin domain : List ℕ) → unwrap_or given origin ≡ folded domain → length (unwrap_or given origin) ≡ length domain
length-domain given origin domain h = ap length h ∙ length-map domain _

pub domain_too_long : (local : List ℕ) (given : Option (List ℕ)) (origin domain : List ℕ) → IsTrue (is_origin origin) → unwrap_or given origin ≡ folded domain
    → 255 < length domain → is_domain_too_long local given ≡ true
domain_too_long local None origin domain o h long = absurd (omega (arith, (origin_parts origin o).2, length-domain None origin domain h))
domain_too_long local (Some d) origin domain o h long = or_left (ltb 255 (length d)) (ltb 256 (path_len local d)) (lt-ltb 255 (length d) (omega (arith, length-domain (Some d) origin domain h)))

pub path_too_long : (local : List ℕ) (given : Option (List ℕ)) (origin domain : List ℕ) (written : ℕ) → IsTrue (is_origin origin) → unwrap_or given origin ≡ folded domain
    → written ≡ length (local_text_of local) → written ≤ 64 → 256 < written + length domain + 3 → is_domain_too_long local given ≡ true
path_too_long local None origin domain written o h w short long = absurd (omega (arith, (origin_parts origin o).2, length-domain None origin domain h))
path_too_long local (Some d) origin domain written o h w short long = or_right (ltb 255 (length d)) (ltb 256 (path_len local d)) (lt-ltb 256 (path_len local d) (omega (arith, w, path_text_length (record { local = local; domain = d }), length-domain (Some d) origin domain h)))

pub path_fits : (local : List ℕ) (given : Option (List ℕ)) (origin domain : List ℕ) (written : ℕ) → unwrap_or given origin ≡ folded domain
    → written ≡ length (local_text_of local) → length domain ≤ 255 → written + length domain + 3 ≤ 256 → is_domain_too_long local (Some (unwrap_or given origin)) ≡ false
path_fits local given origin domain written h w short within =
    let same = length-domain given origin domain h in
    let d : List ℕ = unwrap_or given origin in
    or_from (ltb 255 (length d)) (ltb 256 (path_len local d)) (le-ltb 255 (length d) (omega (arith, same))) (le-ltb 256 (path_len local d) (omega (arith, w, same, path_text_length (record { local = local; domain = d }))))

pub given_fits : (local : List ℕ) (given : Option (List ℕ)) (origin : List ℕ) → is_domain_too_long local (Some (unwrap_or given origin)) ≡ false → is_domain_too_long local given ≡ false
given_fits local None origin h = refl
given_fits local (Some d) origin h = h

-- an address has a folded domain
pub good_domain : (given : Option (List ℕ)) (origin : List ℕ) → IsTrue (is_origin origin) → is_bad_domain given ≡ false → is_domain (unwrap_or given origin) ≡ true
good_domain None origin o h = (origin_parts origin o).0
good_domain (Some d) origin o h = not-false _ h

-- what passed the checks of a local part
abbrev pub no_fault : Result (Unit {0}) TextFault
no_fault = Ok tt

passed : (a b c : Bool) → (if a then Err Empty else (if b then Err BadByte else (if c then Err BadQuote else no_fault))) ≡ no_fault → (a ≡ false) × (b ≡ false) × (c ≡ false)
passed true b c h = cc
passed false true c h = cc
passed false false true h = cc
passed false false false h = (refl, refl, refl)

pub passed_checks : (cut : LocalCut) → local_check cut ≡ no_fault → (is_empty cut.raw ≡ false) × (list_all (is_local_byte cut) cut.raw ≡ true) × (cut.closed ≡ true)
passed_checks cut h =
    let parts = passed _ _ _ h in
    (parts.0, not-false _ parts.1, not-false _ (or_parts (not cut.closed) _ parts.2).0)

-- each byte of a local part may stand between quotes
list_all-weaker : (p q : ℕ → Bool) → ((b : ℕ) → p b ≡ true → q b ≡ true) → (xs : List ℕ) → list_all p xs ≡ true → list_all q xs ≡ true
list_all-weaker p q w [] h = refl
list_all-weaker p q w (b ∷ bs) h =
    let parts = and_parts (p b) (list_all p bs) h in
    and_from (q b) (list_all q bs) (w b parts.0) (list_all-weaker p q w bs parts.1)

list_any-among : (b : ℕ) (q : ℕ → Bool) (cs : List ℕ) → list_all q cs ≡ true → list_any (λ c. c == b) cs ≡ true → q b ≡ true
list_any-among b q [] all any = cc
list_any-among b q (c ∷ cs) all any =
    let parts = and_parts (q c) (list_all q cs) all in
    elim (or_cases (c == b) (list_any (λ x. x == b) cs) any) [ inl e ↦ ap q (sym (eqb-true c b e)) ∙ parts.0 | inr more ↦ list_any-among b q cs parts.1 more ]

alphanumeric_quotable : (b : ℕ) → is_ascii_alphanumeric b ≡ true → is_quotable b ≡ true
alphanumeric_quotable b h = grind (arith, nat_tests)

dot_quotable : (b : ℕ) → is_dot b ≡ true → is_quotable b ≡ true
dot_quotable b h = grind (arith, nat_tests)

atext_quotable : (b : ℕ) → is_atext b ≡ true → is_quotable b ≡ true
atext_quotable b h = elim (or_cases (is_ascii_alphanumeric b) _ h) [ inl e ↦ alphanumeric_quotable b e | inr e ↦ list_any-among b is_quotable (codes "!#$%&'*+-/=?^_`{|}~") refl e ]

pub plain_quotable : (b : ℕ) → (is_atext b || is_dot b) ≡ true → is_quotable b ≡ true
plain_quotable b h = elim (or_cases (is_atext b) (is_dot b) h) [ inl e ↦ atext_quotable b e | inr e ↦ dot_quotable b e ]

kept_all : (q : ℕ → Bool) (t : Bool) (b : ℕ) (K : Bool → List ℕ) → q b ≡ true → ((e : Bool) → list_all q (K e) ≡ true) → list_all q (cond t (K true) (b ∷ K false)) ≡ true
kept_all q true b K h more = more true
kept_all q false b K h more = and_from (q b) (list_all q (K false)) h (more false)

kept_from-all : (q : ℕ → Bool) (escaped : Bool) (xs : List ℕ) → list_all q xs ≡ true → list_all q (kept_from escaped xs) ≡ true
kept_from-all q escaped [] h = refl
kept_from-all q escaped (b ∷ bs) h =
    let parts = and_parts (q b) (list_all q bs) h in
    kept_all q (not escaped && (b == 92)) b (λ e. kept_from e bs) parts.0 (λ e. kept_from-all q e bs parts.1)

quotable_by : (quoted : Bool) (raw : List ℕ) → cond quoted (list_all is_quotable raw) (list_all (λ b. is_atext b || is_dot b) raw) ≡ true → list_all is_quotable (if quoted then without_escapes raw else raw) ≡ true
quotable_by true raw h = ap (λ xs. list_all is_quotable xs) (without_escapes-kept raw) ∙ kept_from-all is_quotable false raw h
quotable_by false raw h = list_all-weaker _ is_quotable plain_quotable raw h

pub local_quotable : (cut : LocalCut) → list_all (is_local_byte cut) cut.raw ≡ true → list_all is_quotable (local_of cut) ≡ true
local_quotable cut h = quotable_by cut.quoted cut.raw (sym (all_local_bytes cut) ∙ h)

-- the raw text before the closing quote, byte by byte
abbrev raw_from : Bool → List ℕ → List ℕ
raw_from escaped [] = []
raw_from escaped (b ∷ bs) = cond ((b == 34) && not escaped) [] (b ∷ raw_from (not escaped && (b == 92)) bs)

raw_step : (t : Bool) (b : ℕ) (m : Mark) (n : ℕ) (ms : List Mark) (bs : List ℕ) → m.byte ≡ b → bytes_of (take n ms) ≡ bs → bytes_of (take (cond (not t) (1 + n) 0) (m ∷ ms)) ≡ cond t [] (b ∷ bs)
raw_step true b m n ms bs h e = refl
raw_step false b m n ms bs h e =
    let more : 1 + n ≡ suc n = omega arith in
    ap (λ k. bytes_of (take k (m ∷ ms))) more ∙ ap (λ x. x ∷ bytes_of (take n ms)) h ∙ ap (λ xs. b ∷ xs) e

raw_is : (escaped : Bool) (text : List ℕ) → bytes_of (before_first is_quote (marks_from escaped text)) ≡ raw_from escaped text
raw_is escaped [] = refl
raw_is escaped (b ∷ bs) = raw_step ((b == 34) && not escaped) b (record { byte = b; escaped = escaped }) _ (marks_from (not escaped && (b == 92)) bs) (raw_from (not escaped && (b == 92)) bs) refl (raw_is (not escaped && (b == 92)) bs)

escaped_kept : (t : Bool) (c : ℕ) (cs : List ℕ) → is_empty (kept_from true (cond (t && false) [] (c ∷ cs))) ≡ false
escaped_kept true c cs = refl
escaped_kept false c cs = refl

kept_some : (q s : Bool) (b : ℕ) (bs : List ℕ) → (b == 92) ≡ s → ((q && true) || list_any is_quote (marks_from s bs)) ≡ true → is_empty (cond (q && true) [] (b ∷ raw_from s bs)) ≡ false
    → is_empty (kept_from false (cond (q && true) [] (b ∷ raw_from s bs))) ≡ false
kept_some true s b bs e closed some = some
kept_some false false b bs e closed some = rw e refl
kept_some false true b [] e closed some = cc
kept_some false true b (c ∷ cs) e closed some = rw e (escaped_kept (c == 34) c (raw_from false cs))

kept_nonempty : (text : List ℕ) → list_any is_quote (marks text) ≡ true → is_empty (raw_from false text) ≡ false → is_empty (kept_from false (raw_from false text)) ≡ false
kept_nonempty [] closed some = some
kept_nonempty (b ∷ bs) closed some = kept_some (b == 34) (b == 92) b bs refl closed some

quoted_nonempty : (text : List ℕ) → (quoted_cut text).closed ≡ true → is_empty (quoted_cut text).raw ≡ false → is_empty (local_of (quoted_cut text)) ≡ false
quoted_nonempty text closed some =
    ap (λ xs. is_empty xs) (without_escapes-kept (quoted_cut text).raw ∙ ap (λ xs. kept_from false xs) (raw_is false text))
    ∙ kept_nonempty text closed (ap (λ xs. is_empty xs) (sym (raw_is false text)) ∙ some)

cut_nonempty : (t : Bool) (b : ℕ) (bs : List ℕ) → (if t then quoted_cut bs else plain_cut (b ∷ bs)).closed ≡ true → is_empty (if t then quoted_cut bs else plain_cut (b ∷ bs)).raw ≡ false
    → is_empty (local_of (if t then quoted_cut bs else plain_cut (b ∷ bs))) ≡ false
cut_nonempty true b bs closed some = quoted_nonempty bs closed some
cut_nonempty false b bs closed some = some

-- a local part that passed the checks isn't empty
pub local_nonempty : (text : List ℕ) → (local_cut text).closed ≡ true → is_empty (local_cut text).raw ≡ false → is_empty (local_of (local_cut text)) ≡ false
local_nonempty [] closed some = some
local_nonempty (b ∷ bs) closed some = cut_nonempty (b == 34) b bs closed some

-- what the code knows of a text once its local part and its domain are read
pub record IsRead (origin text domain : List ℕ) : Type 0 where
  pub at_origin : IsTrue (is_origin origin)
  pub passes : local_check (local_cut text) ≡ no_fault
  pub good : is_bad_domain (spelled_domain (local_cut text).rest) ≡ false
  pub same : unwrap_or (spelled_domain (local_cut text).rest) origin ≡ folded domain

pub check_of : (cut given : LocalCut) (answer found : Result (Unit {0}) TextFault) → cut ≡ given → answer ≡ local_check cut → answer ≡ found → local_check given ≡ found
check_of cut given answer found h e w = sym (ap local_check h) ∙ sym e ∙ w

pub rest_is : (text rest : List ℕ) (cut : LocalCut) (t : Bool) → cut ≡ local_cut text → rest ≡ cut.rest → (length rest == 0) ≡ t → is_empty (local_cut text).rest ≡ t
rest_is text rest cut t h r e = ap (λ xs. is_empty xs) (sym (r ∙ ap (λ k. k.rest) h)) ∙ is_empty_is rest ∙ e

pub read_of : (origin text domain rest : List ℕ) (cut : LocalCut) → IsTrue (is_origin origin) → cut ≡ local_cut text → local_check (local_cut text) ≡ no_fault → rest ≡ cut.rest
    → (is_bad_domain (spelled_domain rest) ≡ false) × (unwrap_or (spelled_domain rest) origin ≡ folded domain) → IsRead origin text domain
read_of origin text domain rest cut o h ok r d =
    let rests : rest ≡ (local_cut text).rest = r ∙ ap (λ k. k.rest) h in
    record { at_origin = o; passes = ok; good = ap (λ x. is_bad_domain (spelled_domain x)) (sym rests) ∙ d.0; same = ap (λ x. unwrap_or (spelled_domain x) origin) (sym rests) ∙ d.1 }

pub fault_long_local : (origin text domain : List ℕ) (n : ℕ) → IsRead origin text domain → n ≡ length (local_of (local_cut text)) → 64 < n → address_of origin text ≡ Err TooLong
fault_long_local origin text domain n r h long =
    let local : List ℕ = local_of (local_cut text) in
    address-too_long origin text r.passes r.good (or_left _ _ (local_too_long local (length (local_text_of local)) refl (omega (arith, h, local_text_longer local))))

pub fault_long_domain : (origin text domain : List ℕ) → IsRead origin text domain → 255 < length domain → address_of origin text ≡ Err TooLong
fault_long_domain origin text domain r long = address-too_long origin text r.passes r.good (or_right (is_local_too_long (local_of (local_cut text))) _ (domain_too_long (local_of (local_cut text)) (spelled_domain (local_cut text).rest) origin domain r.at_origin r.same long))

pub fault_long_written : (origin text domain : List ℕ) (written : ℕ) → IsRead origin text domain → written ≡ length (local_text_of (local_of (local_cut text))) → 64 < written → address_of origin text ≡ Err TooLong
fault_long_written origin text domain written r w long = address-too_long origin text r.passes r.good (or_left _ _ (local_too_long (local_of (local_cut text)) written w long))

pub fault_long_path : (origin text domain : List ℕ) (written : ℕ) → IsRead origin text domain → written ≡ length (local_text_of (local_of (local_cut text))) → written ≤ 64 → 256 < written + length domain + 3 → address_of origin text ≡ Err TooLong
fault_long_path origin text domain written r w short long = address-too_long origin text r.passes r.good (or_right (is_local_too_long (local_of (local_cut text))) _ (path_too_long (local_of (local_cut text)) (spelled_domain (local_cut text).rest) origin domain written r.at_origin r.same w short long))

pub address_of-read : (origin text domain : List ℕ) (written : ℕ) → IsRead origin text domain → written ≡ length (local_text_of (local_of (local_cut text))) → length domain ≤ 255 → written ≤ 64 → written + length domain + 3 ≤ 256
    → address_of origin text ≡ Ok (record { local = local_of (local_cut text); domain = folded domain })
address_of-read origin text domain written r w short_domain short within =
    let local : List ℕ = local_of (local_cut text) in
    let path : is_domain_too_long local (spelled_domain (local_cut text).rest) ≡ false = given_fits local (spelled_domain (local_cut text).rest) origin (path_fits local (spelled_domain (local_cut text).rest) origin domain written r.same w short_domain within) in
    address-ok origin text r.passes r.good (or_from _ _ (local_fits local written w short) path)
    ∙ ap (λ d. Ok (record { local = local_of (local_cut text); domain = d })) r.same

-- what passed every check is an address
pub is_address-read : (origin text domain : List ℕ) (written : ℕ) → IsRead origin text domain → written ≡ length (local_text_of (local_of (local_cut text))) → length domain ≤ 255 → written ≤ 64 → written + length domain + 3 ≤ 256
    → IsTrue (is_address (record { local = local_of (local_cut text); domain = folded domain }))
unfolding is_address
is_address-read origin text domain written r w short_domain short within =
    let passed = passed_checks (local_cut text) r.passes in
    let local : List ℕ = local_of (local_cut text) in
    let d : List ℕ = folded domain in
    let some : not (is_empty local) ≡ true = ap not (local_nonempty text passed.2 passed.0) in
    let quotable : list_all is_quotable local ≡ true = local_quotable (local_cut text) passed.1 in
    let is_good : is_domain d ≡ true = ap is_domain (sym r.same) ∙ good_domain (spelled_domain (local_cut text).rest) origin r.at_origin r.good in
    let stays : bytes_eq (folded d) d ≡ true = (bytes_eq-Decides _ _).1 (folded-folded domain) in
    let fits : not (is_local_too_long local) ≡ true = ap not (local_fits local written w short) in
    let path : not (is_domain_too_long local (Some d)) ≡ true = ap not (path_fits local (Some d) origin domain written refl w short_domain within) in
    and_from _ _ (and_from _ _ (and_from _ _ (and_from _ _ (and_from _ _ some quotable) is_good) stays) fits) path

-- the two parts of the buffer
pub parts_of : (items local domain : List ℕ) (n : ℕ) → items ≡ local ++ domain → n ≡ length local → (take n items ≡ local) × (drop n items ≡ domain)
parts_of items local domain n h e = (ap (λ xs. take n xs) h ∙ take_at local domain n (sym e), ap (λ xs. drop n xs) h ∙ drop_at local domain n (sym e))

-- the written length that the code finds in the buffer
pub written_is : (items now local domain : List ℕ) (n written : ℕ) → items ≡ local ++ domain → now ≡ items → n ≡ length local → written ≡ length (local_text_of (take n now)) → written ≡ length (local_text_of local)
written_is items now local domain n written h e l w = w ∙ ap (λ xs. length (local_text_of xs)) (ap (λ xs. take n xs) e ∙ (parts_of items local domain n h l).0)

-- what each address is
pub address_parts : (a : AddressParts) → IsTrue (is_address a)
    → (is_empty a.local ≡ false) × (list_all is_quotable a.local ≡ true) × (is_domain a.domain ≡ true) × (folded a.domain ≡ a.domain) × (length (local_text_of a.local) ≤ 64) × (length a.domain ≤ 255) × (length (path_text_of (Some a)) ≤ 256)
unfolding is_address
address_parts a h =
    let path = and_parts _ (not (is_domain_too_long a.local (Some a.domain))) h in
    let local = and_parts _ (not (is_local_too_long a.local)) path.0 in
    let stays = and_parts _ (bytes_eq (folded a.domain) a.domain) local.0 in
    let domain = and_parts _ (is_domain a.domain) stays.0 in
    let quotable = and_parts (not (is_empty a.local)) (list_all is_quotable a.local) domain.0 in
    let short = or_parts (ltb 255 (length a.domain)) (ltb 256 (path_len a.local a.domain)) (not-true _ path.1) in
    (not-true _ quotable.0, quotable.1, domain.1, (bytes_eq-Decides _ _).0 stays.1, ltb-false _ _ (not-true _ local.1), ltb-false _ _ short.0, ltb-false _ _ short.1)

pub origin_from_parts : (origin : List ℕ) → is_domain origin ≡ true → folded origin ≡ origin → length origin ≤ 189 → IsTrue (is_origin origin)
unfolding is_origin
origin_from_parts origin d f l = and_from _ _ (and_from _ _ d ((bytes_eq-Decides _ _).1 f)) (le-leb _ _ l)
