-- Addresses and names without quotes: what they spell, and that they are found at the front of other bytes.
use Rattle.std.proofs.Common.{◌≡◌, ℕ, suc, zero, ◌+◌, ◌<◌, ◌≤◌, Bool, true, false, not, ◌||◌, ◌==◌, List, [], ◌∷◌, ◌++◌, length, take, drop, get_or, ◌≢◌, refl, sym, ap, subst, ◌∙◌, arith, inl, inr, Some, None, Ok, Err}
use Rattle.std.specs.Bool.{IsTrue}
use Rattle.std.specs.Option.{unwrap_or}
use Rattle.std.specs.List.{list_all, slice_split}
use Rattle.std.specs.Char.{is_ascii_alphanumeric}
use Rattle.std.proofs.lemmas.Bool.{cases_Bool, cases_lt, not-true, and_parts, and_from, or_cases, or_left, or_right, eqb-true}
use Rattle.std.proofs.lemmas.List.{append-nil, append_assoc, take_all, drop_all, drop_at, drop_more, take-append-drop, take-take, drop-take, length-drop, length-take, length-append}
use Rattle.std.proofs.lemmas.List.Folds.{length-prefix_len, list_all-append}
use Rattle.std.proofs.lemmas.List.Sums.{prefix_len-le-length}
use Rattle.std.proofs.Math.Seq.{take-add}
use Rattle.relay_text.specs.Bytes.{folded}
use Rattle.relay_text.specs.Addresses.{local_cut, local_of, local_checks, checked, Check, is_empty, is_atext, is_dot, is_dot_string, is_bad_domain, is_origin, is_local_too_long, local_text_of, spelled_domain, name_of}
use Rattle.relay_text.specs.Runs.{part_byte, run_byte, run_len, run_in, is_joined}
use Rattle.relay_text.specs.PlainTexts.{is_plain_rest, is_plain_text, is_open_byte, is_open_text, front_behind, plain_front}
use Rattle.relay_text.specs.declared.fault.TextFault.TheVariants.{BadDomain, TooLong}
use Rattle.relay_text.specs.declared.run.Part.TheVariants.{Local, Domain}
use Rattle.relay_text.proofs.Domains.{is_domain-from_name}
use Rattle.relay_text.proofs.Folds.{is_domain-folded}
use Rattle.relay_text.proofs.Faults.{local_check, name-domain_fault, name-too_long, name-ok}
use Rattle.relay_text.proofs.Limits.{IsRead, local_too_long, local_fits}
use Rattle.relay_text.proofs.Paths.{Behind, behind_nothing, behind_domain, CutsTo, cuts_open, checks_pass, split_bytes, runs_bytes}
use Rattle.relay_text.proofs.Runs.{front_passes}

-- ---- what such a text spells
pub record PlainParts (n : ℕ) (text : List ℕ) : Type 0 where
  pub some : is_empty (take n text) ≡ false
  pub bytes : list_all (run_byte Local) (take n text) ≡ true
  pub rest : is_plain_rest (drop n text) ≡ true

pub plain_parts : (n : ℕ) (text : List ℕ) → IsTrue (is_plain_text n text) → PlainParts n text
plain_parts n text good =
    let outer = and_parts _ (is_plain_rest (drop n text)) good in
    let inner = and_parts (not (is_empty (take n text))) (list_all (run_byte Local) (take n text)) outer.0 in
    record { some = not-true _ inner.0; bytes = inner.1; rest = outer.1 }

pub plain_behind : (rest : List ℕ) → is_plain_rest rest ≡ true → Behind rest
plain_behind [] good = behind_nothing
plain_behind (b ∷ bs) good =
    let at : b ≡ 64 = eqb-true b 64 ((and_parts (b == 64) (is_joined Domain bs) good).0) in
    subst (λ (c : ℕ). Behind (c ∷ bs)) (sym at) (behind_domain bs)

pub plain_cuts : (n : ℕ) (text : List ℕ) → IsTrue (is_plain_text n text) → CutsTo text (take n text) (drop n text)
plain_cuts n text good =
    let parts = plain_parts n text good in
    let P : List ℕ → Type 0 = λ t. CutsTo t (take n text) (drop n text) in
    subst P (take-append-drop n text) (cuts_open (take n text) (drop n text) (plain_behind (drop n text) parts.rest) parts.some parts.bytes)

-- behind such a cut stands nothing or an `@`, so that no check of the local part finds a fault
pub cut_passes : (text local rest : List ℕ) → CutsTo text local rest → Behind rest → local_check (local_cut text) ≡ Ok tt
cut_passes text local rest cuts behind =
    let none : List Check = [] in
    ap (λ (checks : List Check). checked checks tt) (sym (append-nil (local_checks (local_cut text))))
    ∙ checks_pass (local_cut text) local rest cuts behind none tt

pub plain_passes : (n : ℕ) (text : List ℕ) → IsTrue (is_plain_text n text) → local_check (local_cut text) ≡ Ok tt
plain_passes n text good = cut_passes text (take n text) (drop n text) (plain_cuts n text good) (plain_behind (drop n text) ((plain_parts n text good).rest))

pub some_left : (n : ℕ) (text : List ℕ) → n < length text → is_empty (drop n text) ≡ false
some_left n text more = by_length (drop n text) (omega (arith, length-drop n text)) where
  by_length : (xs : List ℕ) → 0 < length xs → is_empty xs ≡ false
  by_length [] h = absurd (omega arith)
  by_length (x ∷ xs) h = refl

pub plain_name-domain : (n : ℕ) (text : List ℕ) → IsTrue (is_plain_text n text) → n < length text → name_of text ≡ Err BadDomain
plain_name-domain n text good more = name-domain_fault text (plain_passes n text good) (ap is_empty ((plain_cuts n text good).rest_is) ∙ some_left n text more)

nothing_left : (n : ℕ) (text : List ℕ) → IsTrue (is_plain_text n text) → length text ≤ n → is_empty (local_cut text).rest ≡ true
nothing_left n text good all = ap is_empty ((plain_cuts n text good).rest_is ∙ drop_all n text all)

whole_local : (n : ℕ) (text : List ℕ) → IsTrue (is_plain_text n text) → length text ≤ n → local_of (local_cut text) ≡ text
whole_local n text good all = (plain_cuts n text good).local_is ∙ take_all n text all

pub plain_name-long : (n written : ℕ) (text : List ℕ) → IsTrue (is_plain_text n text) → length text ≤ n → written ≡ length (local_text_of text) → 64 < written → name_of text ≡ Err TooLong
plain_name-long n written text good all is long =
    name-too_long text (plain_passes n text good) (nothing_left n text good all)
    (ap is_local_too_long (whole_local n text good all) ∙ local_too_long text written is long)

pub plain_name-ok : (n written : ℕ) (text : List ℕ) → IsTrue (is_plain_text n text) → length text ≤ n → written ≡ length (local_text_of text) → written ≤ 64 → name_of text ≡ Ok text
plain_name-ok n written text good all is short =
    name-ok text (plain_passes n text good) (nothing_left n text good all) (ap is_local_too_long (whole_local n text good all) ∙ local_fits text written is short)
    ∙ ap (λ t. Ok t) (whole_local n text good all)

pub plain_name-other : (n : ℕ) (text : List ℕ) → IsTrue (is_plain_text n text) → length text ≤ n → name_of text ≢ Err BadDomain
plain_name-other n text good all h = elim (cases_lt 64 (length (local_text_of text))) [
  | inl long ↦ let k = plain_name-long n _ text good all refl long in cc
  | inr short ↦ let k = plain_name-ok n _ text good all refl short in cc
]

good_rest : (rest : List ℕ) → is_plain_rest rest ≡ true → is_bad_domain (spelled_domain rest) ≡ false
good_rest [] good = refl
good_rest (b ∷ bs) good = ap not (is_domain-folded bs ∙ is_domain-from_name bs ((and_parts (b == 64) (is_joined Domain bs) good).1))

pub plain_read : (n : ℕ) (origin text domain rest : List ℕ) → IsTrue (is_plain_text n text) → IsTrue (is_origin origin) → rest ≡ drop n text → unwrap_or (spelled_domain rest) origin ≡ folded domain
    → IsRead origin text domain
plain_read n origin text domain rest good o is same =
    let rests : (local_cut text).rest ≡ drop n text = (plain_cuts n text good).rest_is in
    record {
      at_origin = o;
      passes = plain_passes n text good;
      good = ap (λ r. is_bad_domain (spelled_domain r)) rests ∙ good_rest (drop n text) ((plain_parts n text good).rest);
      same = ap (λ r. unwrap_or (spelled_domain r) origin) (rests ∙ sym is) ∙ same;
    }

pub plain_local : (n : ℕ) (text : List ℕ) → IsTrue (is_plain_text n text) → local_of (local_cut text) ≡ take n text
plain_local n text good = (plain_cuts n text good).local_is

-- ---- the longest such text at the front of some bytes
pub address_row : (bytes rest : List ℕ) (n m : ℕ) → drop n bytes ≡ 64 ∷ rest → take (n + 1 + m) bytes ≡ take n bytes ++ 64 ∷ take m rest
address_row bytes rest n m at =
    let len : n + 1 + m ≡ n + suc m = omega arith in
    ap (λ k. take k bytes) len ∙ take-add n (suc m) bytes ∙ ap (λ (t : List ℕ). take n bytes ++ take (suc m) t) at

front_some : (bytes : List ℕ) (n : ℕ) → n ≡ run_len Local bytes → 0 < n → is_empty (run_in Local bytes) ≡ false
front_some bytes n is some = by_length (run_in Local bytes) (omega (arith, is, length-prefix_len (run_byte Local) bytes)) where
  by_length : (xs : List ℕ) → 0 < length xs → is_empty xs ≡ false
  by_length [] h = absurd (omega arith)
  by_length (x ∷ xs) h = refl

-- a local part, `@` and a domain name
pub front-address : (bytes rest : List ℕ) (n m : ℕ) → n ≡ run_len Local bytes → 0 < n → drop n bytes ≡ 64 ∷ rest → m ≡ run_len Domain rest → is_joined Domain (run_in Domain rest) ≡ true
    → plain_front bytes ≡ Some (take (n + 1 + m) bytes)
front-address bytes rest n m is some at is_m good =
    rw (front_some bytes n is some) (ap (λ k. front_behind (take k bytes) (drop k bytes)) (sym is) ∙ ap (front_behind (take n bytes)) at ∙ rw good refl
    ∙ ap (λ t. Some t) (ap (λ k. take n bytes ++ 64 ∷ take k rest) (sym is_m) ∙ sym (address_row bytes rest n m at)))

-- what stands at a place
at_sign : (bytes : List ℕ) (n : ℕ) → n < length bytes → get_or bytes n 0 ≡ 64 → drop n bytes ≡ 64 ∷ drop (n + 1) bytes
at_sign bytes n within at = drop_more bytes n 0 within ∙ ap (λ (b : ℕ). b ∷ drop (n + 1) bytes) at

pub front-address_at : (bytes : List ℕ) (n m : ℕ) → n ≡ run_len Local bytes → 0 < n → n < length bytes → get_or bytes n 0 ≡ 64 → m ≡ run_len Domain (drop (n + 1) bytes)
    → is_joined Domain (run_in Domain (drop (n + 1) bytes)) ≡ true → plain_front bytes ≡ Some (take (n + 1 + m) bytes)
front-address_at bytes n m is some within at is_m good = front-address bytes (drop (n + 1) bytes) n m is some (at_sign bytes n within at) is_m good

-- what the reader keeps of it
pub kept-name : (bytes : List ℕ) (n : ℕ) → n ≡ run_len Local bytes → 0 < n → IsTrue (is_plain_text n (take n bytes))
kept-name bytes n is some =
    let fits : n ≤ length bytes = omega (arith, is, prefix_len-le-length (run_byte Local) bytes) in
    let len : length (take n bytes) ≤ n = omega (arith, length-take n bytes) in
    let front : take n (take n bytes) ≡ run_in Local bytes = take_all n (take n bytes) len ∙ ap (λ k. take k bytes) is in
    and_from _ _ (and_from _ _ (ap (λ t. not (is_empty t)) front ∙ ap not (front_some bytes n is some)) (ap (list_all (run_byte Local)) front ∙ front_passes (run_byte Local) bytes))
    (ap is_plain_rest (drop_all n (take n bytes) len))

pub kept-address : (bytes rest : List ℕ) (n m : ℕ) → n ≡ run_len Local bytes → 0 < n → drop n bytes ≡ 64 ∷ rest → m ≡ run_len Domain rest → is_joined Domain (run_in Domain rest) ≡ true
    → IsTrue (is_plain_text n (take (n + 1 + m) bytes))
kept-address bytes rest n m is some at is_m good =
    let len : n + 1 + m ≡ n + suc m = omega arith in
    let front : take n (take (n + 1 + m) bytes) ≡ run_in Local bytes = take-take n (n + 1 + m) bytes (omega arith) ∙ ap (λ k. take k bytes) is in
    let back : drop n (take (n + 1 + m) bytes) ≡ 64 ∷ run_in Domain rest =
    ap (λ k. drop n (take k bytes)) len ∙ drop-take n (suc m) bytes ∙ ap (take (suc m)) at ∙ ap (λ k. 64 ∷ take k rest) is_m in
    and_from _ _ (and_from _ _ (ap (λ t. not (is_empty t)) front ∙ ap not (front_some bytes n is some)) (ap (list_all (run_byte Local)) front ∙ front_passes (run_byte Local) bytes))
    (ap is_plain_rest back ∙ good)

-- ---- which bytes it has
label_open : (b : ℕ) → run_byte Domain b ≡ true → is_open_byte b ≡ true
label_open b h = elim (or_cases (part_byte Domain b) (is_dot b) h) [
  | inl e ↦ elim (or_cases (is_ascii_alphanumeric b || (b == 45)) (b == 95) e) [
    | inl f ↦ elim (or_cases (is_ascii_alphanumeric b) (b == 45) f) [
      | inl a ↦ or_left (run_byte Local b) (b == 64) (or_left (is_atext b) (is_dot b) (or_left (is_ascii_alphanumeric b) _ a))
      | inr x ↦ ap is_open_byte (eqb-true b 45 x)
    ]
    | inr x ↦ ap is_open_byte (eqb-true b 95 x)
  ]
  | inr e ↦ or_left (run_byte Local b) (b == 64) (or_right (is_atext b) (is_dot b) e)
]

weaker : (p q : ℕ → Bool) → ((b : ℕ) → p b ≡ true → q b ≡ true) → (xs : List ℕ) → list_all p xs ≡ true → list_all q xs ≡ true
weaker p q w [] h = refl
weaker p q w (b ∷ bs) h =
    let parts = and_parts (p b) (list_all p bs) h in
    and_from (q b) (list_all q bs) (w b parts.0) (weaker p q w bs parts.1)

rest_open : (rest : List ℕ) → is_plain_rest rest ≡ true → list_all is_open_byte rest ≡ true
rest_open [] good = refl
rest_open (b ∷ bs) good =
    let parts = and_parts (b == 64) (is_joined Domain bs) good in
    and_from (is_open_byte b) (list_all is_open_byte bs) (or_right (run_byte Local b) (b == 64) parts.0)
    (weaker (run_byte Domain) is_open_byte label_open bs (split_bytes (part_byte Domain) is_dot bs (runs_bytes (part_byte Domain) (slice_split is_dot bs) parts.1)))

some_front : (n : ℕ) (text : List ℕ) → is_empty (take n text) ≡ false → is_empty text ≡ false
some_front zero [] h = h
some_front (suc n) [] h = h
some_front n (b ∷ bs) h = refl

pub plain_open : (n : ℕ) (text : List ℕ) → IsTrue (is_plain_text n text) → IsTrue (is_open_text text)
plain_open n text good =
    let parts = plain_parts n text good in
    let front : list_all is_open_byte (take n text) ≡ true = weaker (run_byte Local) is_open_byte (λ b h. or_left (run_byte Local b) (b == 64) h) (take n text) parts.bytes in
    let all : list_all is_open_byte text ≡ true =
    ap (list_all is_open_byte) (sym (take-append-drop n text)) ∙ list_all-append is_open_byte (take n text) (drop n text)
    ∙ and_from (list_all is_open_byte (take n text)) (list_all is_open_byte (drop n text)) front (rest_open (drop n text) parts.rest) in
    and_from (not (is_empty text)) (list_all is_open_byte text) (ap not (some_front n text parts.some)) all

pub kept-address_at : (bytes : List ℕ) (n m : ℕ) → n ≡ run_len Local bytes → 0 < n → n < length bytes → get_or bytes n 0 ≡ 64 → m ≡ run_len Domain (drop (n + 1) bytes)
    → is_joined Domain (run_in Domain (drop (n + 1) bytes)) ≡ true → IsTrue (is_plain_text n (take (n + 1 + m) bytes))
kept-address_at bytes n m is some within at is_m good = kept-address bytes (drop (n + 1) bytes) n m is some (at_sign bytes n within at) is_m good

-- the local part of what it keeps
pub local-joined : (bytes : List ℕ) (n len : ℕ) (t : Bool) → n ≡ run_len Local bytes → n ≤ len → t ≡ is_joined Local (run_in Local bytes) → t ≡ is_dot_string (take n (take len bytes))
local-joined bytes n len t is longer h = h ∙ ap is_dot_string (ap (λ k. take k bytes) (sym is) ∙ sym (take-take n len bytes longer))

-- ---- it is a front of the bytes
split_at : (text rest bytes : List ℕ) → bytes ≡ text ++ rest → text ++ drop (length text) bytes ≡ bytes
split_at text rest bytes is = ap (λ (t : List ℕ). text ++ drop (length text) t) is ∙ ap (λ (t : List ℕ). text ++ t) (drop_at text rest (length text) refl) ∙ sym is

split_behind : (bytes local rest text : List ℕ) → bytes ≡ local ++ rest → Some text ≡ front_behind local rest → text ++ drop (length text) bytes ≡ bytes
split_behind bytes local [] text is h = let same : text ≡ local = cc in split_at text [] bytes (is ∙ ap (λ (t : List ℕ). t ++ []) (sym same))
split_behind bytes local (b ∷ bs) text is h = elim (cases_Bool (b == 64)) [
  | inl e ↦ elim (cases_Bool (is_joined Domain (run_in Domain bs))) [
    | inl g ↦
        let m = run_len Domain bs in
        let found : Some text ≡ Some (local ++ 64 ∷ run_in Domain bs) = h ∙ rw (e, g) refl in
        let same : text ≡ local ++ 64 ∷ run_in Domain bs = cc in
        split_at text (drop m bs) bytes (is ∙ ap (λ (c : ℕ). local ++ c ∷ bs) (eqb-true b 64 e) ∙ ap (λ (t : List ℕ). local ++ 64 ∷ t) (sym (take-append-drop m bs))
        ∙ sym (append_assoc local (64 ∷ run_in Domain bs) (drop m bs)) ∙ ap (λ (t : List ℕ). t ++ drop m bs) (sym same))
    | inr g ↦ let found : Some text ≡ None = h ∙ rw (e, g) refl in cc
  ]
  | inr e ↦
      let found : Some text ≡ Some local = h ∙ rw e refl in
      let same : text ≡ local = cc in
      split_at text (b ∷ bs) bytes (is ∙ ap (λ (t : List ℕ). t ++ b ∷ bs) (sym same))
]

pub front_split : (bytes text : List ℕ) → Some text ≡ plain_front bytes → text ++ drop (length text) bytes ≡ bytes
front_split bytes text h = elim (cases_Bool (is_empty (run_in Local bytes))) [
  | inl e ↦ let found : Some text ≡ None = h ∙ rw e refl in cc
  | inr e ↦ split_behind bytes (run_in Local bytes) (drop (run_len Local bytes) bytes) text (sym (take-append-drop (run_len Local bytes) bytes)) (h ∙ rw e refl)
]

pub front_length : (bytes text : List ℕ) → Some text ≡ plain_front bytes → length text ≤ length bytes
front_length bytes text h = omega (arith, ap length (front_split bytes text h), length-append text (drop (length text) bytes))

pub front_whole : (bytes text : List ℕ) → Some text ≡ plain_front bytes → length bytes ≤ length text → text ≡ bytes
front_whole bytes text h all = sym (append-nil text) ∙ ap (λ (t : List ℕ). text ++ t) (sym (drop_all (length text) bytes all)) ∙ front_split bytes text h
