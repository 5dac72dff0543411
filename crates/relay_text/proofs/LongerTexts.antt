-- Texts that go on behind the longest text without quotes at their front: which fault they have.
use Rattle.std.proofs.Common.{◌≡◌, ℕ, ◌+◌, ◌<◌, ◌≤◌, Bool, true, false, not, ◌&&◌, ◌==◌, List, [], ◌∷◌, ◌++◌, length, take, drop, get_or, refl, sym, ap, subst, ◌∙◌, arith, inl, inr, Some, None, Ok, Err}
use Rattle.std.specs.Bool.{IsTrue, if◌then◌else◌}
use Rattle.std.specs.List.{list_all, list_any, slice_split, prefix_len, before_first}
use Rattle.std.proofs.lemmas.Bool.{cases_Bool, both_ways, and_parts, and_right, or_left, or_right, eqb-true, false_from_ne_true}
use Rattle.std.proofs.lemmas.List.{append-nil, take_all, drop_more, take-append-drop, length-drop, length-append}
use Rattle.std.proofs.lemmas.List.Folds.{length-prefix_len, list_all-append, list_any-append}
use Rattle.std.proofs.lemmas.List.Sums.{prefix_len_stops}
use Rattle.relay_text.specs.Addresses.{local_cut, plain_cut, is_empty, is_dot, is_domain, is_bad_domain, spelled_domain}
use Rattle.relay_text.specs.Runs.{part_byte, run_byte, run_len, run_in, is_joined}
use Rattle.relay_text.specs.PlainTexts.{is_plain_rest, is_plain_text, front_behind, plain_front, HasFault}
use Rattle.relay_text.specs.declared.fault.TextFault.{TextFault}
use Rattle.relay_text.specs.declared.fault.TextFault.TheVariants.{BadByte, BadDomain}
use Rattle.relay_text.specs.declared.run.Part.TheVariants.{Local, Domain}
use Rattle.relay_text.proofs.Domains.{is_domain-cases, is_literal-content}
use Rattle.relay_text.proofs.Folds.{is_domain-folded}
use Rattle.relay_text.proofs.Faults.{local_check, name-local_fault, name-domain_fault, address-local_fault, address-domain_fault}
use Rattle.relay_text.proofs.Paths.{is_plain, no_at, not_at, behind_domain, CutsTo, cuts_open, runs_bytes, split_bytes}
use Rattle.relay_text.proofs.PlainTexts.{cut_passes, plain_parts, some_left}
use Rattle.relay_text.proofs.Runs.{front_passes, take_more}

-- the byte before which a run ends
run_end : (q : ℕ → Bool) (xs : List ℕ) (b : ℕ) (bs : List ℕ) → drop (prefix_len q xs) xs ≡ b ∷ bs → q b ≡ false
run_end q xs b bs h =
    let n : ℕ = prefix_len q xs in
    let within : prefix_len q xs < length xs = omega (arith, ap length h, length-drop (prefix_len q xs) xs) in
    let both : get_or xs n 0 ∷ drop (n + 1) xs ≡ b ∷ bs = sym (drop_more xs n 0 within) ∙ h in
    let first : get_or xs n 0 ≡ b = cc in
    ap q (sym first) ∙ prefix_len_stops q xs 0 within

-- ---- behind a local part: a byte that may not stand there, and is no `@`
bad_raw : (l : List ℕ) (b : ℕ) (bs : List ℕ) → list_all is_plain l ≡ true → is_plain b ≡ false → (b == 64) ≡ false → list_all is_plain (before_first (λ x. x == 64) (l ++ b ∷ bs)) ≡ false
bad_raw [] b bs good bad other = ap (list_all is_plain) (take_more (λ x. not (x == 64)) b bs (ap not other)) ∙ rw bad refl
bad_raw (c ∷ cs) b bs good bad other =
    let parts = and_parts (is_plain c) (list_all is_plain cs) good in
    ap (list_all is_plain) (take_more (λ x. not (x == 64)) c (cs ++ b ∷ bs) (ap not (not_at 64 refl c parts.0)))
    ∙ and_right (is_plain c) _ (bad_raw cs b bs parts.1 bad other)

bad_byte : (l : List ℕ) (b : ℕ) (bs : List ℕ) → is_empty l ≡ false → list_all is_plain l ≡ true → is_plain b ≡ false → (b == 64) ≡ false → local_check (local_cut (l ++ b ∷ bs)) ≡ Err BadByte
bad_byte [] b bs some good bad other = absurd (both_ways true some refl)
bad_byte (c ∷ cs) b bs some good bad other =
    let first : is_plain c ≡ true = (and_parts (is_plain c) (list_all is_plain cs) good).0 in
    let cut : local_cut (c ∷ cs ++ b ∷ bs) ≡ plain_cut (c ∷ cs ++ b ∷ bs) = rw (not_at 34 refl c first) refl in
    let raw : is_empty (plain_cut (c ∷ cs ++ b ∷ bs)).raw ≡ false = ap is_empty (take_more (λ x. not (x == 64)) c (cs ++ b ∷ bs) (ap not (not_at 64 refl c first))) in
    let byte : list_all is_plain (plain_cut (c ∷ cs ++ b ∷ bs)).raw ≡ false = bad_raw (c ∷ cs) b bs good bad other in
    ap local_check cut ∙ rw (raw, byte) refl

-- ---- behind a domain name: a byte that may not stand in one
no_name : (text : List ℕ) (b : ℕ) (bs : List ℕ) → drop (run_len Domain text) text ≡ b ∷ bs → list_all (run_byte Domain) text ≡ true → ⊥
no_name text b bs behind all =
    let n : ℕ = run_len Domain text in
    let parts : list_all (run_byte Domain) (take n text) && list_all (run_byte Domain) (b ∷ bs) ≡ true =
    sym (list_all-append (run_byte Domain) (take n text) (b ∷ bs)) ∙ ap (λ (t : List ℕ). list_all (run_byte Domain) (take n text ++ t)) (sym behind)
    ∙ ap (list_all (run_byte Domain)) (take-append-drop n text) ∙ all in
    let back = (and_parts _ (list_all (run_byte Domain) (b ∷ bs)) parts).1 in
    both_ways (run_byte Domain b) (run_end (run_byte Domain) text b bs behind) ((and_parts (run_byte Domain b) (list_all (run_byte Domain) bs) back).0)

no_domain : (text : List ℕ) (b : ℕ) (bs : List ℕ) → is_joined Domain (run_in Domain text) ≡ true → drop (run_len Domain text) text ≡ b ∷ bs → is_domain text ≡ false
no_domain text b bs good behind = false_from_ne_true _ (λ e. elim (is_domain-cases text e) [
  | inl name ↦ no_name text b bs behind (split_bytes (part_byte Domain) is_dot text (runs_bytes (part_byte Domain) (slice_split is_dot text) name))
  | inr literal ↦ both_ways (is_joined Domain (run_in Domain text)) (ap (λ t. is_joined Domain (run_in Domain t)) ((is_literal-content text literal).0)) good
])

bad_domain : (l text : List ℕ) → is_empty l ≡ false → list_all is_plain l ≡ true → is_domain text ≡ false → HasFault BadDomain (l ++ 64 ∷ text)
bad_domain l text some good bad =
    let cuts : CutsTo (l ++ 64 ∷ text) l (64 ∷ text) = cuts_open l (64 ∷ text) (behind_domain text) some good in
    let passes : local_check (local_cut (l ++ 64 ∷ text)) ≡ Ok tt = cut_passes (l ++ 64 ∷ text) l (64 ∷ text) cuts (behind_domain text) in (
      name-domain_fault (l ++ 64 ∷ text) passes (ap is_empty cuts.rest_is),
      λ origin. address-domain_fault origin (l ++ 64 ∷ text) passes (ap (λ r. is_bad_domain (spelled_domain r)) cuts.rest_is ∙ ap not (is_domain-folded text ∙ bad)),
    )

-- ---- the two kinds of fronts: whether it has an `@` says which fault
abbrev has_at : List ℕ → Bool
has_at text = list_any (λ b. b == 64) text

abbrev fault_by : Bool → TextFault
fault_by at = if at then BadDomain else BadByte

behind : (bytes local rest text : List ℕ) → bytes ≡ local ++ rest → is_empty local ≡ false → list_all is_plain local ≡ true → ((b : ℕ) (bs : List ℕ) → rest ≡ b ∷ bs → is_plain b ≡ false)
    → plain_front bytes ≡ front_behind local rest → plain_front bytes ≡ Some text → length text < length bytes → HasFault (fault_by (has_at text)) bytes
behind bytes local [] text is some good ends front h longer =
    let same : text ≡ local = cc in
    absurd (omega (arith, ap length same, ap length is, ap length (append-nil local)))
behind bytes local (b ∷ bs) text is some good ends front h longer = elim (cases_Bool (b == 64)) [
  | inl e ↦ elim (cases_Bool (is_joined Domain (run_in Domain bs))) [
    | inl g ↦
        let m : ℕ = run_len Domain bs in
        let found : Some text ≡ Some (local ++ 64 ∷ run_in Domain bs) = sym h ∙ front ∙ rw (e, g) refl in
        let same : text ≡ local ++ 64 ∷ run_in Domain bs = cc in
        let more : run_len Domain bs < length bs =
        omega (arith, ap length same, ap length is, length-append local (64 ∷ run_in Domain bs), length-append local (b ∷ bs), length-prefix_len (run_byte Domain) bs) in
        let bad : is_domain bs ≡ false = no_domain bs (get_or bs m 0) (drop (m + 1) bs) g (drop_more bs m 0 more) in
        let at : has_at text ≡ true = ap has_at same ∙ list_any-append (λ x. x == 64) local (64 ∷ run_in Domain bs) ∙ or_right (has_at local) (has_at (64 ∷ run_in Domain bs)) refl in
        let row : local ++ 64 ∷ bs ≡ bytes = ap (λ (c : ℕ). local ++ c ∷ bs) (sym (eqb-true b 64 e)) ∙ sym is in
        let P : Bool → Type 0 = λ t. HasFault (fault_by t) bytes in
        let Q : List ℕ → Type 0 = HasFault BadDomain in
        subst P (sym at) (subst Q row (bad_domain local bs some good bad))
    | inr g ↦ let found : Some text ≡ None = sym h ∙ front ∙ rw (e, g) refl in cc
  ]
  | inr e ↦
      let found : Some text ≡ Some local = sym h ∙ front ∙ rw e refl in
      let same : text ≡ local = cc in
      let none : has_at text ≡ false = ap has_at same ∙ no_at local good in
      let fault : local_check (local_cut bytes) ≡ Err BadByte = ap (λ (t : List ℕ). local_check (local_cut t)) is ∙ bad_byte local b bs some good (ends b bs refl) e in
      let P : Bool → Type 0 = λ t. HasFault (fault_by t) bytes in
      subst P (sym none) (name-local_fault bytes BadByte fault, λ origin. address-local_fault origin bytes BadByte fault)
]

longer_fault : (bytes text : List ℕ) → plain_front bytes ≡ Some text → length text < length bytes → HasFault (fault_by (has_at text)) bytes
longer_fault bytes text h longer = elim (cases_Bool (is_empty (run_in Local bytes))) [
  | inl e ↦ let found : Some text ≡ None = sym h ∙ rw e refl in cc
  | inr e ↦
      let n : ℕ = run_len Local bytes in
      behind bytes (run_in Local bytes) (drop n bytes) text (sym (take-append-drop n bytes)) e (front_passes (run_byte Local) bytes) (run_end (run_byte Local) bytes) (rw e refl) h longer
]

at_behind : (rest : List ℕ) → is_empty rest ≡ false → is_plain_rest rest ≡ true → has_at rest ≡ true
at_behind [] some good = absurd (both_ways true some refl)
at_behind (b ∷ bs) some good = or_left (b == 64) (has_at bs) ((and_parts (b == 64) (is_joined Domain bs) good).0)

-- every longer text with such a front has one fault: where the front has a domain, and where it has none
pub longer_address : (n : ℕ) (bytes text : List ℕ) → IsTrue (is_plain_text n text) → n < length text → plain_front bytes ≡ Some text → length text < length bytes → HasFault BadDomain bytes
longer_address n bytes text good more h longer =
    let at : has_at text ≡ true =
    ap has_at (sym (take-append-drop n text)) ∙ list_any-append (λ x. x == 64) (take n text) (drop n text)
    ∙ or_right (has_at (take n text)) (has_at (drop n text)) (at_behind (drop n text) (some_left n text more) ((plain_parts n text good).rest)) in
    let P : Bool → Type 0 = λ t. HasFault (fault_by t) bytes in
    subst P at (longer_fault bytes text h longer)

pub longer_name : (n : ℕ) (bytes text : List ℕ) → IsTrue (is_plain_text n text) → length text ≤ n → plain_front bytes ≡ Some text → length text < length bytes → HasFault BadByte bytes
longer_name n bytes text good all h longer =
    let none : has_at text ≡ false = no_at text (ap (list_all is_plain) (sym (take_all n text all)) ∙ (plain_parts n text good).bytes) in
    let P : Bool → Type 0 = λ t. HasFault (fault_by t) bytes in
    subst P none (longer_fault bytes text h longer)
