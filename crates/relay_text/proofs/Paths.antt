-- The one spelling of a local part and of a path reads back.
use Rattle.std.proofs.Common.{◌≡◌, ℕ, ◌+◌, ◌-◌, ◌<◌, ◌≤◌, Bool, true, false, not, ◌&&◌, ◌||◌, ◌==◌, cond, List, [], ◌∷◌, ◌++◌, length, take, drop, flat_map, filter, Option, Some, Result, Ok, refl, sym, ap, subst, ◌∙◌, inl, inr, arith}
use Rattle.std.specs.List.{list_all, list_any, slice_split, onto_first, position_or_len, before_first, after_first}
use Rattle.std.proofs.lemmas.Bool.{cases_Bool, and_parts, or_parts, and_from, or_from, and_right, or_left, or_right, not-true, le-ltb, eqb-true, both_ways}
use Rattle.std.proofs.lemmas.List.{append-nil, append_assoc, map-append, take_at, take_all, drop_at, length-append}
use Rattle.std.proofs.lemmas.List.Elements.{filter-append}
use Rattle.std.proofs.lemmas.List.Folds.{list_any-append, list_all-append}
use Rattle.std.specs.Bool.{IsTrue}
use Rattle.std.specs.Str.{bytes_eq}
use Rattle.std.proofs.lemmas.Slice.Eq.{bytes_eq-Decides}
use Rattle.relay_text.specs.Bytes.{folded}
use Rattle.relay_text.specs.declared.fault.TextFault.{TextFault}
use Rattle.relay_text.specs.declared.fault.TextFault.TheVariants.{BadDomain, TooLong}
use Rattle.relay_text.specs.AddressParts.{AddressParts}
use Rattle.relay_text.specs.Quotes.{Mark, marks_from, marks, bytes_of, is_quote, without_escapes}
use Rattle.relay_text.specs.Addresses.{quoted_byte, is_quotable, is_atext, is_dot, is_run_of, is_dot_string, local_text_of, LocalCut, quoted_cut, plain_cut, local_cut, local_of, is_local_byte, is_empty, Check, checked, local_checks, Spelled, spelled_domain, spelled_of, is_bad_domain, is_local_too_long, is_domain_too_long, spelling_of, at_origin, address_of, result_map, inside, path_of, path_text_of, name_of, is_domain, is_address}

-- whether a byte is written with a backslash before it
abbrev pub is_special : ℕ → Bool
is_special b = (b == 34) || (b == 92)

-- the marks of a byte as it's written between quotes
abbrev pub byte_marks : ℕ → List Mark
byte_marks b = cond (is_special b) (record { byte = 92; escaped = false } ∷ record { byte = b; escaped = true } ∷ []) (record { byte = b; escaped = false } ∷ [])

pub marks_byte : (b : ℕ) (r : List ℕ) → marks (quoted_byte b ++ r) ≡ byte_marks b ++ marks r
marks_byte b r = elim (cases_Bool (is_special b)) [
  | inl e ↦ rw e refl
  | inr e ↦ rw (e, (or_parts (b == 34) (b == 92) e).1) refl
]

pub marks_quoted : (l r : List ℕ) → marks (flat_map quoted_byte l ++ r) ≡ flat_map byte_marks l ++ marks r
marks_quoted [] r = refl
marks_quoted (b ∷ bs) r = ap marks (append_assoc (quoted_byte b) (flat_map quoted_byte bs) r)
    ∙ marks_byte b (flat_map quoted_byte bs ++ r)
    ∙ ap (λ m. byte_marks b ++ m) (marks_quoted bs r)
    ∙ sym (append_assoc (byte_marks b) (flat_map byte_marks bs) (marks r))

pub marks_all : (l : List ℕ) → marks (flat_map quoted_byte l) ≡ flat_map byte_marks l
marks_all l = ap marks (sym (append-nil (flat_map quoted_byte l))) ∙ marks_quoted l [] ∙ append-nil (flat_map byte_marks l)

pub bytes_of_marks : (escaped : Bool) (text : List ℕ) → bytes_of (marks_from escaped text) ≡ text
bytes_of_marks escaped [] = refl
bytes_of_marks escaped (b ∷ bs) = ap (λ (rest : List ℕ). b ∷ rest) (bytes_of_marks (not escaped && (b == 92)) bs)

-- what `without_escapes` keeps
abbrev pub is_kept : Mark → Bool
is_kept m = m.escaped || not (m.byte == 92)

kept_byte : (b : ℕ) → bytes_of (filter is_kept (byte_marks b)) ≡ b ∷ []
kept_byte b = elim (cases_Bool (is_special b)) [
  | inl e ↦ rw e refl
  | inr e ↦ rw (e, (or_parts (b == 34) (b == 92) e).1) refl
]

kept_all : (l : List ℕ) → bytes_of (filter is_kept (flat_map byte_marks l)) ≡ l
kept_all [] = refl
kept_all (b ∷ bs) = ap bytes_of (filter-append is_kept (byte_marks b) (flat_map byte_marks bs))
    ∙ map-append (λ (m : Mark). m.byte) (filter is_kept (byte_marks b)) (filter is_kept (flat_map byte_marks bs))
    ∙ ap (λ (front : List ℕ). front ++ bytes_of (filter is_kept (flat_map byte_marks bs))) (kept_byte b)
    ∙ ap (λ (rest : List ℕ). b ∷ rest) (kept_all bs)

-- what stands between quotes reads back
pub unescaped : (l : List ℕ) → without_escapes (flat_map quoted_byte l) ≡ l
unescaped l = ap (λ (ms : List Mark). bytes_of (filter is_kept ms)) (marks_all l) ∙ kept_all l

no_quote_byte : (b : ℕ) → list_any is_quote (byte_marks b) ≡ false
no_quote_byte b = elim (cases_Bool (is_special b)) [
  | inl e ↦ rw (e, and_right (b == 34) false refl) refl
  | inr e ↦ rw (e, (or_parts (b == 34) (b == 92) e).0) refl
]

-- no byte between quotes closes them
pub no_quote : (l : List ℕ) → list_any is_quote (flat_map byte_marks l) ≡ false
no_quote [] = refl
no_quote (b ∷ bs) = list_any-append is_quote (byte_marks b) (flat_map byte_marks bs)
    ∙ or_from (list_any is_quote (byte_marks b)) (list_any is_quote (flat_map byte_marks bs)) (no_quote_byte b) (no_quote bs)

-- the first element that passes stands behind those that don't
pub position_behind : {X : Type 0} (p : X → Bool) (xs : List X) (y : X) (ys : List X) → list_any p xs ≡ false → p y ≡ true → position_or_len p (xs ++ y ∷ ys) ≡ length xs
position_behind p [] y ys none here = rw here refl
position_behind p (x ∷ xs) y ys none here =
    let parts : (p x ≡ false) × (list_any p xs ≡ false) = or_parts (p x) (list_any p xs) none in
    let more : position_or_len p (xs ++ y ∷ ys) ≡ length xs = position_behind p xs y ys parts.1 here in
    rw (parts.0, more) (omega arith)

pub before_behind : {X : Type 0} (p : X → Bool) (xs : List X) (y : X) (ys : List X) → list_any p xs ≡ false → p y ≡ true → before_first p (xs ++ y ∷ ys) ≡ xs
before_behind p xs y ys none here = ap (λ n. take n (xs ++ y ∷ ys)) (position_behind p xs y ys none here) ∙ take_at xs (y ∷ ys) (length xs) refl

pub after_behind : {X : Type 0} (p : X → Bool) (xs : List X) (y : X) (ys : List X) → list_any p xs ≡ false → p y ≡ true → after_first p (xs ++ y ∷ ys) ≡ ys
after_behind p xs y ys none here = ap (λ n. drop (n + 1) (xs ++ y ∷ ys)) (position_behind p xs y ys none here)
    ∙ ap (drop (length xs + 1)) (sym (append_assoc xs (y ∷ []) ys))
    ∙ drop_at (xs ++ y ∷ []) ys (length xs + 1) (length-append xs (y ∷ []))

-- A cut spells a local part that may stand there, and leaves this rest.
pub record HasCut (cut : LocalCut) (local rest : List ℕ) : Type 0 where
  pub local_is : local_of cut ≡ local
  pub rest_is : cut.rest ≡ rest
  pub some : is_empty cut.raw ≡ false
  pub bytes : list_all (is_local_byte cut) cut.raw ≡ true
  pub closed : cut.closed ≡ true

abbrev pub CutsTo : List ℕ → List ℕ → List ℕ → Type 0
CutsTo text local rest = HasCut (local_cut text) local rest

-- Between quotes: the cut is the one at the first quote behind the local part.
quoted_marks : (l r : List ℕ) → marks (flat_map quoted_byte l ++ 34 ∷ r) ≡ flat_map byte_marks l ++ record { byte = 34; escaped = false } ∷ marks r
quoted_marks l r = marks_quoted l (34 ∷ r)

bytes_of_marks_all : (l : List ℕ) → bytes_of (flat_map byte_marks l) ≡ flat_map quoted_byte l
bytes_of_marks_all l = ap bytes_of (sym (marks_all l)) ∙ bytes_of_marks false (flat_map quoted_byte l)

quoted_raw : (l r : List ℕ) → (quoted_cut (flat_map quoted_byte l ++ 34 ∷ r)).raw ≡ flat_map quoted_byte l
quoted_raw l r = ap (λ (ms : List Mark). bytes_of (before_first is_quote ms)) (quoted_marks l r)
    ∙ ap bytes_of (before_behind is_quote (flat_map byte_marks l) (record { byte = 34; escaped = false }) (marks r) (no_quote l) refl)
    ∙ bytes_of_marks_all l

quoted_rest : (l r : List ℕ) → (quoted_cut (flat_map quoted_byte l ++ 34 ∷ r)).rest ≡ r
quoted_rest l r = ap (λ (ms : List Mark). bytes_of (after_first is_quote ms)) (quoted_marks l r)
    ∙ ap bytes_of (after_behind is_quote (flat_map byte_marks l) (record { byte = 34; escaped = false }) (marks r) (no_quote l) refl)
    ∙ bytes_of_marks false r

quoted_closed : (l r : List ℕ) → (quoted_cut (flat_map quoted_byte l ++ 34 ∷ r)).closed ≡ true
quoted_closed l r = ap (list_any is_quote) (quoted_marks l r)
    ∙ list_any-append is_quote (flat_map byte_marks l) (record { byte = 34; escaped = false } ∷ marks r)
    ∙ or_right (list_any is_quote (flat_map byte_marks l)) (list_any is_quote (record { byte = 34; escaped = false } ∷ marks r)) refl

quotable_byte : (b : ℕ) → is_quotable b ≡ true → list_all is_quotable (quoted_byte b) ≡ true
quotable_byte b good = elim (cases_Bool (is_special b)) [
  | inl e ↦ rw (e, good) refl
  | inr e ↦ rw (e, good) refl
]

quotable_all : (l : List ℕ) → list_all is_quotable l ≡ true → list_all is_quotable (flat_map quoted_byte l) ≡ true
quotable_all [] good = refl
quotable_all (b ∷ bs) good =
    let parts : (is_quotable b ≡ true) × (list_all is_quotable bs ≡ true) = and_parts (is_quotable b) (list_all is_quotable bs) good in
    list_all-append is_quotable (quoted_byte b) (flat_map quoted_byte bs)
    ∙ and_from (list_all is_quotable (quoted_byte b)) (list_all is_quotable (flat_map quoted_byte bs)) (quotable_byte b parts.0) (quotable_all bs parts.1)

some_byte : (b : ℕ) (bs : List ℕ) → is_empty (quoted_byte b ++ bs) ≡ false
some_byte b bs = elim (cases_Bool (is_special b)) [ inl e ↦ rw e refl | inr e ↦ rw e refl ]

some_quoted : (l : List ℕ) → is_empty l ≡ false → is_empty (flat_map quoted_byte l) ≡ false
some_quoted [] some = some
some_quoted (b ∷ bs) some = some_byte b (flat_map quoted_byte bs)

cuts_quoted : (l r : List ℕ) → is_empty l ≡ false → list_all is_quotable l ≡ true → CutsTo (34 ∷ (flat_map quoted_byte l ++ 34 ∷ r)) l r
cuts_quoted l r some good = record {
  local_is = ap without_escapes (quoted_raw l r) ∙ unescaped l;
  rest_is = quoted_rest l r;
  some = ap is_empty (quoted_raw l r) ∙ some_quoted l some;
  bytes = ap (list_all is_quotable) (quoted_raw l r) ∙ quotable_all l good;
  closed = quoted_closed l r;
}

-- A Dot-string: runs of atext and dots, which begin with no quote and have no `@`.
abbrev pub is_plain : ℕ → Bool
is_plain b = is_atext b || is_dot b

pub run_bytes : (p : ℕ → Bool) (run : List ℕ) → is_run_of p run ≡ true → list_all p run ≡ true
run_bytes p [] good = refl
run_bytes p (b ∷ bs) good = good

pub runs_bytes : (p : ℕ → Bool) (runs : List (List ℕ)) → list_all (is_run_of p) runs ≡ true → list_all (list_all p) runs ≡ true
runs_bytes p [] good = refl
runs_bytes p (run ∷ runs) good =
    let parts : (is_run_of p run ≡ true) × (list_all (is_run_of p) runs ≡ true) = and_parts (is_run_of p run) (list_all (is_run_of p) runs) good in
    and_from (list_all p run) (list_all (list_all p) runs) (run_bytes p run parts.0) (runs_bytes p runs parts.1)

first_bytes : (p : ℕ → Bool) (b : ℕ) (runs : List (List ℕ)) → list_all (list_all p) (onto_first b runs) ≡ true → (p b ≡ true) × (list_all (list_all p) runs ≡ true)
first_bytes p b [] good = ((and_parts (p b) true ((and_parts (p b && true) true good).0)).0, refl)
first_bytes p b (run ∷ runs) good =
    let parts : ((p b && list_all p run) ≡ true) × (list_all (list_all p) runs ≡ true) = and_parts (p b && list_all p run) (list_all (list_all p) runs) good in
    let front : (p b ≡ true) × (list_all p run ≡ true) = and_parts (p b) (list_all p run) parts.0 in
    (front.0, and_from (list_all p run) (list_all (list_all p) runs) front.1 parts.1)

pub split_bytes : (p d : ℕ → Bool) (text : List ℕ) → list_all (list_all p) (slice_split d text) ≡ true → list_all (λ b. p b || d b) text ≡ true
split_bytes p d [] good = refl
split_bytes p d (b ∷ bs) good = elim (cases_Bool (d b)) [
  | inl e ↦
      let tail : list_all (list_all p) (slice_split d bs) ≡ true = rw e at good in
      and_from (p b || d b) (list_all (λ c. p c || d c) bs) (or_right (p b) (d b) e) (split_bytes p d bs tail)
  | inr e ↦
      let all : list_all (list_all p) (onto_first b (slice_split d bs)) ≡ true = rw e at good in
      let parts : (p b ≡ true) × (list_all (list_all p) (slice_split d bs) ≡ true) = first_bytes p b (slice_split d bs) all in
      and_from (p b || d b) (list_all (λ c. p c || d c) bs) (or_left (p b) (d b) parts.0) (split_bytes p d bs parts.1)
]

plain_bytes : (l : List ℕ) → is_dot_string l ≡ true → list_all is_plain l ≡ true
plain_bytes l dots = split_bytes is_atext is_dot l (runs_bytes is_atext (slice_split is_dot l) dots)

pub not_at : (c : ℕ) → is_plain c ≡ false → (b : ℕ) → is_plain b ≡ true → (b == c) ≡ false
not_at c bad b good = elim (cases_Bool (b == c)) [
  | inl e ↦ absurd (both_ways (is_plain c) bad (ap is_plain (sym (eqb-true b c e)) ∙ good))
  | inr e ↦ e
]

pub no_at : (l : List ℕ) → list_all is_plain l ≡ true → list_any (λ b. b == 64) l ≡ false
no_at [] good = refl
no_at (b ∷ bs) good =
    let parts : (is_plain b ≡ true) × (list_all is_plain bs ≡ true) = and_parts (is_plain b) (list_all is_plain bs) good in
    or_from (b == 64) (list_any (λ c. c == 64) bs) (not_at 64 refl b parts.0) (no_at bs parts.1)

-- What stands behind a local part: nothing, or an `@` and a domain.
pub data Behind : List ℕ → Type 0 where
  nothing : Behind []
  domain : (text : List ℕ) → Behind (64 ∷ text)

pub behind_nothing : Behind []
behind_nothing = nothing

pub behind_domain : (text : List ℕ) → Behind (64 ∷ text)
behind_domain text = domain text

before_none : {X : Type 0} (p : X → Bool) (xs : List X) → list_any p xs ≡ false → position_or_len p xs ≡ length xs
before_none p [] none = refl
before_none p (x ∷ xs) none =
    let parts : (p x ≡ false) × (list_any p xs ≡ false) = or_parts (p x) (list_any p xs) none in
    let more : position_or_len p xs ≡ length xs = before_none p xs parts.1 in
    rw (parts.0, more) (omega arith)

plain_raw : (l r : List ℕ) → Behind r → list_any (λ b. b == 64) l ≡ false → (plain_cut (l ++ r)).raw ≡ l
plain_raw l r nothing none = ap (before_first (λ (b : ℕ). b == 64)) (append-nil l)
    ∙ ap (λ n. take n l) (before_none (λ (b : ℕ). b == 64) l none) ∙ take_all (length l) l (omega arith)
plain_raw l r (domain text) none = before_behind (λ (b : ℕ). b == 64) l 64 text none refl

pub cuts_open : (l r : List ℕ) → Behind r → is_empty l ≡ false → list_all is_plain l ≡ true → CutsTo (l ++ r) l r
cuts_open [] r behind some good = absurd (both_ways true some refl)
cuts_open (b ∷ bs) r behind some good =
    let cut : local_cut (b ∷ bs ++ r) ≡ plain_cut (b ∷ bs ++ r) = rw (not_at 34 refl b ((and_parts (is_plain b) (list_all is_plain bs) good).0)) refl in
    let raw : (plain_cut (b ∷ bs ++ r)).raw ≡ b ∷ bs = plain_raw (b ∷ bs) r behind (no_at (b ∷ bs) good) in
    subst (λ (c : LocalCut). HasCut c (b ∷ bs) r) (sym cut) (record {
      local_is = raw;
      rest_is = ap (λ (front : List ℕ). drop (length front) (b ∷ bs ++ r)) raw ∙ drop_at (b ∷ bs) r (length (b ∷ bs)) refl;
      some = ap is_empty raw;
      bytes = ap (list_all is_plain) raw ∙ good;
      closed = refl;
    })

some_dots : (l : List ℕ) → is_dot_string l ≡ true → is_empty l ≡ false
some_dots [] dots = absurd (both_ways false refl dots)
some_dots (b ∷ bs) dots = refl

cuts_plain : (l r : List ℕ) → Behind r → is_dot_string l ≡ true → CutsTo (l ++ r) l r
cuts_plain l r behind dots = cuts_open l r behind (some_dots l dots) (plain_bytes l dots)

-- A local part that may stand in an address or a name, and the text that spells it.
pub cuts_text : (l r : List ℕ) → Behind r → is_empty l ≡ false → list_all is_quotable l ≡ true → CutsTo (local_text_of l ++ r) l r
unfolding local_text_of
cuts_text l r behind some good = elim (cases_Bool (is_dot_string l)) [
  | inl e ↦ rw e (cuts_plain l r behind e)
  | inr e ↦ rw (e, append_assoc (flat_map quoted_byte l) (34 ∷ []) r) (cuts_quoted l r some good)
]

-- the checks of a good cut find no fault
pub checks_pass : {A : Type 0} (cut : LocalCut) (l r : List ℕ) → HasCut cut l r → Behind r → (more : List Check) (a : A) → checked (local_checks cut ++ more) a ≡ checked more a
checks_pass cut l r h nothing more a = rw (h.some, h.bytes, h.closed, h.rest_is) refl
checks_pass cut l r h (domain text) more a = rw (h.some, h.bytes, h.closed, h.rest_is) refl

-- the checks of what a text spells with its domain
abbrev pub spelled_checks : Spelled → List Check
spelled_checks s = (is_bad_domain s.domain, BadDomain) ∷ (is_local_too_long s.local || is_domain_too_long s.local s.domain, TooLong) ∷ []

pub spells : (text l r : List ℕ) → CutsTo text l r → Behind r
    → spelling_of text ≡ checked (spelled_checks (record { local = l; domain = spelled_domain r })) (record { local = l; domain = spelled_domain r })
unfolding spelling_of
spells text l r h behind =
    let same : spelled_of text ≡ record { local = l; domain = spelled_domain r } = rw (h.local_is, h.rest_is) refl in
    checks_pass (local_cut text) l r h behind (spelled_checks (spelled_of text)) (spelled_of text)
    ∙ ap (λ (s : Spelled). checked (spelled_checks s) s) same

-- What `is_address` says, part by part.
pub record GoodParts (a : AddressParts) : Type 0 where
  pub some : is_empty a.local ≡ false
  pub quotable : list_all is_quotable a.local ≡ true
  pub domain : is_domain a.domain ≡ true
  pub is_folded : folded a.domain ≡ a.domain
  pub local_fits : is_local_too_long a.local ≡ false
  pub domain_fits : is_domain_too_long a.local (Some a.domain) ≡ false

pub good_parts : (a : AddressParts) → IsTrue (is_address a) → GoodParts a
unfolding is_address
good_parts a good =
    let x1 = and_parts _ _ good in
    let x2 = and_parts _ _ x1.0 in
    let x3 = and_parts _ _ x2.0 in
    let x4 = and_parts _ _ x3.0 in
    let x5 = and_parts _ _ x4.0 in
    record {
      some = not-true (is_empty a.local) x5.0;
      quotable = x5.1;
      domain = x4.1;
      is_folded = (bytes_eq-Decides (folded a.domain) a.domain).0 x3.1;
      local_fits = not-true (is_local_too_long a.local) x2.1;
      domain_fits = not-true (is_domain_too_long a.local (Some a.domain)) x1.1;
    }

pub address_reads : (origin : List ℕ) (a : AddressParts) → IsTrue (is_address a) → address_of origin (local_text_of a.local ++ 64 ∷ a.domain) ≡ Ok a
address_reads origin a good =
    let parts : GoodParts a = good_parts a good in
    let cuts : CutsTo (local_text_of a.local ++ 64 ∷ a.domain) a.local (64 ∷ a.domain) = cuts_text a.local (64 ∷ a.domain) (domain a.domain) parts.some parts.quotable in
    ap (result_map (at_origin origin)) (spells (local_text_of a.local ++ 64 ∷ a.domain) a.local (64 ∷ a.domain) cuts (domain a.domain))
    ∙ rw (parts.is_folded, parts.domain, parts.local_fits, parts.domain_fits) refl

pub inside_path : (body : List ℕ) → inside (60 ∷ (body ++ 62 ∷ [])) ≡ body
inside_path body = take_at body (62 ∷ []) (length (60 ∷ (body ++ 62 ∷ [])) - 1 - 1) (omega (arith, length-append body (62 ∷ [])))

pub bytes_same : (text : List ℕ) → bytes_eq text text ≡ true
bytes_same text = (bytes_eq-Decides text text).1 refl

pub path_reads : (origin body : List ℕ) → is_empty body ≡ false → path_of origin (60 ∷ (body ++ 62 ∷ [])) ≡ result_map (λ a. Some a) (address_of origin body)
unfolding path_of
path_reads origin [] some = absurd (both_ways true some refl)
path_reads origin (b ∷ bs) some = rw (inside_path (b ∷ bs), bytes_same (60 ∷ (b ∷ bs ++ 62 ∷ []))) refl

some_before : (front : List ℕ) (b : ℕ) (bs : List ℕ) → is_empty (front ++ b ∷ bs) ≡ false
some_before [] b bs = refl
some_before (x ∷ xs) b bs = refl

-- the path of an address reads back as that address
pub path_reads_back : (origin : List ℕ) (a : AddressParts) → IsTrue (is_address a) → path_of origin (path_text_of (Some a)) ≡ Ok (Some a)
path_reads_back origin a good =
    let body : (local_text_of a.local ++ 64 ∷ [] ++ a.domain) ≡ (local_text_of a.local ++ 64 ∷ a.domain) = append_assoc (local_text_of a.local) (64 ∷ []) a.domain in
    ap (λ (text : List ℕ). path_of origin (60 ∷ (text ++ 62 ∷ []))) body
    ∙ path_reads origin (local_text_of a.local ++ 64 ∷ a.domain) (some_before (local_text_of a.local) 64 a.domain)
    ∙ ap (result_map (λ (x : AddressParts). Some x)) (address_reads origin a good)

-- two addresses with one path are one address
pub same_address : (a b : AddressParts) → IsTrue (is_address a) → IsTrue (is_address b) → path_text_of (Some a) ≡ path_text_of (Some b) → a ≡ b
same_address a b good_a good_b same =
    let both : ◌≡◌ {A = Result (Option AddressParts) TextFault} (Ok (Some a)) (Ok (Some b)) = sym (path_reads_back [] a good_a) ∙ ap (path_of []) same ∙ path_reads_back [] b good_b in
    cc

-- the written local part reads back as a name
pub name_reads_back : (l : List ℕ) → is_empty l ≡ false → list_all is_quotable l ≡ true → is_local_too_long l ≡ false → name_of (local_text_of l) ≡ Ok l
unfolding name_of
name_reads_back l some good short =
    let cuts : CutsTo (local_text_of l) l [] = let P : List ℕ → Type 0 = λ text. CutsTo text l [] in subst P (append-nil (local_text_of l)) (cuts_text l [] nothing some good) in
    let cut : LocalCut = local_cut (local_text_of l) in
    let more : List Check = (not (is_empty cut.rest), BadDomain) ∷ (is_local_too_long (local_of cut), TooLong) ∷ [] in
    checks_pass cut l [] cuts nothing more (local_of cut)
    ∙ rw (cuts.local_is, cuts.rest_is, short) refl

some_long : (l : List ℕ) → 0 < length l → is_empty l ≡ false
some_long [] long = absurd (omega arith)
some_long (b ∷ bs) long = refl

pub short_name_reads_back : (l : List ℕ) → 0 < length l → IsTrue (list_all is_quotable l) → length (local_text_of l) ≤ 64 → name_of (local_text_of l) ≡ Ok l
short_name_reads_back l some good short = name_reads_back l (some_long l some) good (le-ltb 64 (length (local_text_of l)) short)
