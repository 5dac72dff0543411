-- Faults: which check decides, and what a text without a fault spells.
use Rattle.std.proofs.Common.{◌≡◌, ℕ, suc, ◌-◌, ◌≤◌, Bool, true, false, not, ◌||◌, List, [], ◌∷◌, ◌++◌, length, take, drop, refl, sym, ap, ◌∙◌, arith, Ok, Err, Result}
use Rattle.std.specs.Bool.{if◌then◌else◌}
use Rattle.std.specs.Option.{unwrap_or}
use Rattle.std.proofs.lemmas.List.{take_all}
use Rattle.relay_text.specs.Bytes.{folded}
use Rattle.relay_text.specs.Addresses.{Check, checked, local_checks, local_cut, local_of, LocalCut, is_empty, is_domain, is_bad_domain, is_local_too_long, is_domain_too_long, spelled_domain, spelling_of, at_origin, address_of, name_of, result_map, spelled_of, Answers}
use Rattle.relay_text.specs.declared.fault.TextFault.{TextFault}
use Rattle.relay_text.specs.declared.fault.TextFault.TheVariants.{Empty, BadByte, BadQuote, BadDomain, TooLong, Memory}
use Rattle.relay_text.proofs.Folds.{is_domain-folded}

-- the first fault of a local part
abbrev pub local_check : LocalCut → Result (Unit {0}) TextFault
local_check cut = checked (local_checks cut) tt

-- the first fault of a front of the checks decides
checked_step : (t : Bool) (f fault : TextFault) {A : Type 0} (xs ys : List Check) (a : A) → (checked {A = Unit {0}} xs tt ≡ Err fault → checked (xs ++ ys) a ≡ Err fault)
    → (if t then Err f else checked {A = Unit {0}} xs tt) ≡ Err fault → (if t then Err f else checked (xs ++ ys) a) ≡ Err fault
checked_step true f fault xs ys a more h = cc
checked_step false f fault xs ys a more h = more h

pub checked-front_err : {A : Type 0} (xs ys : List Check) (a : A) (fault : TextFault) → checked {A = Unit {0}} xs tt ≡ Err fault → checked (xs ++ ys) a ≡ Err fault
checked-front_err [] ys a fault h = cc
checked-front_err (x ∷ xs) ys a fault h = checked_step x.0 x.1 fault xs ys a (checked-front_err xs ys a fault) h

passed_step : (t : Bool) (f : TextFault) {A : Type 0} (xs ys : List Check) (a : A) → (checked {A = Unit {0}} xs tt ≡ Ok tt → checked (xs ++ ys) a ≡ checked ys a)
    → (if t then Err f else checked {A = Unit {0}} xs tt) ≡ Ok tt → (if t then Err f else checked (xs ++ ys) a) ≡ checked ys a
passed_step true f xs ys a more h = cc
passed_step false f xs ys a more h = more h

-- once a front of the checks is passed, the rest decides
pub checked-front_ok : {A : Type 0} (xs ys : List Check) (a : A) → checked {A = Unit {0}} xs tt ≡ Ok tt → checked (xs ++ ys) a ≡ checked ys a
checked-front_ok [] ys a h = refl
checked-front_ok (x ∷ xs) ys a h = passed_step x.0 x.1 xs ys a (checked-front_ok xs ys a) h

-- what follows an `@`
pub domain_of_rest : (rest origin : List ℕ) (t : Bool) → 1 ≤ length rest → is_domain (take (length rest - 1) (drop 1 rest)) ≡ t
    → (is_bad_domain (spelled_domain rest) ≡ not t) × (unwrap_or (spelled_domain rest) origin ≡ folded (take (length rest - 1) (drop 1 rest)))
domain_of_rest [] origin t long h = absurd (omega arith)
domain_of_rest (b ∷ bs) origin t long h =
    let whole : take (suc (length bs) - 1) bs ≡ bs = take_all _ bs (omega arith) in
    (ap not (is_domain-folded bs ∙ ap is_domain (sym whole) ∙ h), ap folded (sym whole))

pub answers_fault : {A : Type 0} (fault : TextFault) (given : Result A TextFault) → given ≡ Err fault → Answers (Err fault) given
answers_fault Empty given h = h
answers_fault BadByte given h = h
answers_fault BadQuote given h = h
answers_fault BadDomain given h = h
answers_fault TooLong given h = h
answers_fault Memory given h = tt

first_decides : {A : Type 0} (b l : Bool) (f g : TextFault) (a : A) → b ≡ true → checked ((b, f) ∷ (l, g) ∷ []) a ≡ Err f
first_decides b l f g a h = rw h refl

second_decides : {A : Type 0} (b l : Bool) (f g : TextFault) (a : A) → b ≡ false → l ≡ true → checked ((b, f) ∷ (l, g) ∷ []) a ≡ Err g
second_decides b l f g a h k = rw (h, k) refl

none_decides : {A : Type 0} (b l : Bool) (f g : TextFault) (a : A) → b ≡ false → l ≡ false → checked ((b, f) ∷ (l, g) ∷ []) a ≡ Ok a
none_decides b l f g a h k = rw (h, k) refl

-- the checks that an address text has beyond those of its local part
abbrev pub is_too_long : LocalCut → Bool
is_too_long cut = is_local_too_long (local_of cut) || is_domain_too_long (local_of cut) (spelled_domain cut.rest)

abbrev more_checks : LocalCut → List Check
more_checks cut = (is_bad_domain (spelled_domain cut.rest), BadDomain) ∷ (is_too_long cut, TooLong) ∷ []

spelling-fault : (text : List ℕ) (fault : TextFault) → local_check (local_cut text) ≡ Err fault → spelling_of text ≡ Err fault
unfolding spelling_of
spelling-fault text fault h = checked-front_err (local_checks (local_cut text)) (more_checks (local_cut text)) (spelled_of text) fault h

spelling-more : (text : List ℕ) → local_check (local_cut text) ≡ Ok tt → spelling_of text ≡ checked (more_checks (local_cut text)) (spelled_of text)
unfolding spelling_of
spelling-more text h = checked-front_ok (local_checks (local_cut text)) (more_checks (local_cut text)) (spelled_of text) h

pub address-local_fault : (origin text : List ℕ) (fault : TextFault) → local_check (local_cut text) ≡ Err fault → address_of origin text ≡ Err fault
address-local_fault origin text fault h = ap (result_map (at_origin origin)) (spelling-fault text fault h)

pub address-domain_fault : (origin text : List ℕ) → local_check (local_cut text) ≡ Ok tt → is_bad_domain (spelled_domain (local_cut text).rest) ≡ true → address_of origin text ≡ Err BadDomain
address-domain_fault origin text ok bad = ap (result_map (at_origin origin)) (spelling-more text ok ∙ first_decides _ _ BadDomain TooLong (spelled_of text) bad)

pub address-too_long : (origin text : List ℕ) → local_check (local_cut text) ≡ Ok tt → is_bad_domain (spelled_domain (local_cut text).rest) ≡ false → is_too_long (local_cut text) ≡ true → address_of origin text ≡ Err TooLong
address-too_long origin text ok good long = ap (result_map (at_origin origin)) (spelling-more text ok ∙ second_decides _ _ BadDomain TooLong (spelled_of text) good long)

pub address-ok : (origin text : List ℕ) → local_check (local_cut text) ≡ Ok tt → is_bad_domain (spelled_domain (local_cut text).rest) ≡ false → is_too_long (local_cut text) ≡ false
    → address_of origin text ≡ Ok (at_origin origin (spelled_of text))
address-ok origin text ok good short = ap (result_map (at_origin origin)) (spelling-more text ok ∙ none_decides _ _ BadDomain TooLong (spelled_of text) good short)

abbrev name_checks : LocalCut → List Check
name_checks cut = (not (is_empty cut.rest), BadDomain) ∷ (is_local_too_long (local_of cut), TooLong) ∷ []

pub name-local_fault : (text : List ℕ) (fault : TextFault) → local_check (local_cut text) ≡ Err fault → name_of text ≡ Err fault
unfolding name_of
name-local_fault text fault h = checked-front_err (local_checks (local_cut text)) (name_checks (local_cut text)) (local_of (local_cut text)) fault h

name-more : (text : List ℕ) → local_check (local_cut text) ≡ Ok tt → name_of text ≡ checked (name_checks (local_cut text)) (local_of (local_cut text))
unfolding name_of
name-more text h = checked-front_ok (local_checks (local_cut text)) (name_checks (local_cut text)) (local_of (local_cut text)) h

pub name-domain_fault : (text : List ℕ) → local_check (local_cut text) ≡ Ok tt → is_empty (local_cut text).rest ≡ false → name_of text ≡ Err BadDomain
name-domain_fault text ok rest = name-more text ok ∙ first_decides _ _ BadDomain TooLong (local_of (local_cut text)) (ap not rest)

pub name-too_long : (text : List ℕ) → local_check (local_cut text) ≡ Ok tt → is_empty (local_cut text).rest ≡ true → is_local_too_long (local_of (local_cut text)) ≡ true → name_of text ≡ Err TooLong
name-too_long text ok rest long = name-more text ok ∙ second_decides _ _ BadDomain TooLong (local_of (local_cut text)) (ap not rest) long

pub name-ok : (text : List ℕ) → local_check (local_cut text) ≡ Ok tt → is_empty (local_cut text).rest ≡ true → is_local_too_long (local_of (local_cut text)) ≡ false → name_of text ≡ Ok (local_of (local_cut text))
name-ok text ok rest short = name-more text ok ∙ none_decides _ _ BadDomain TooLong (local_of (local_cut text)) (ap not rest) short
