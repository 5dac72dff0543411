-- What the texts of patterns and results are.
use Rattle.std.proofs.Common.{◌≡◌, ℕ, ◌+◌, Bool, true, false, cond, ◌||◌, ◌==◌, List, [], ◌∷◌, ◌++◌, take, drop, refl, sym, ap, ◌∙◌, arith, codes}
use Rattle.std.specs.Prelude.{Option, Some, None, Result, Ok, Err, flat_map}
use Rattle.std.specs.List.{list_all, slice_split, position_or_len, before_first, after_first}
use Rattle.std.specs.Char.{to_ascii_lowercase}
use Rattle.std.proofs.lemmas.Bool.{true≢false}
use Rattle.std.proofs.lemmas.Bool.Decides.{nat_tests}
use Rattle.std.proofs.lemmas.List.{drop-drop, map-append}
use Rattle.relay_text.specs.Bytes.{folded, begins_with, trimmed}
use Rattle.relay_text.specs.AddressParts.{AddressParts}
use Rattle.relay_text.specs.Addresses.{Check, checked, local_checks, local_cut, local_of, is_empty, is_bad_domain, is_local_too_long, is_domain_too_long, Spelled, spelled_of, spelled_domain, spelling_of, at_origin, address_of, result_map, is_atext, is_dot, is_dot_string, is_run_of, quoted_byte, local_text_of}
use Rattle.relay_text.specs.declared.fault.TextFault.{TextFault}
use Rattle.relay_text.specs.declared.fault.TextFault.TheVariants.{BadDomain, TooLong}
use Rattle.relay_text.proofs.Folds.{IsFoldable, same_folded, slice_split-folded}
use Rattle.relay_text.proofs.Faults.{checked-front_err, checked-front_ok, local_check, name-domain_fault, name-too_long, name-ok}
use Rattle.relay_routes.specs.declared.choice.Choice.{Choice}
use Rattle.relay_routes.specs.declared.choice.Choice.TheVariants.{Refused, Unknown}
use Rattle.relay_routes.specs.Transports.{address_key, address_pattern, choice_of, nexthop_alone, via_or_unknown, some_text, transport_named, is_colon}
use Rattle.relay_routes.specs.TableSteps.{is_domain_fault, names_domain}
use Rattle.relay_routes.proofs.Folding.{all_runs-folded}

is_atext-folds : IsFoldable is_atext
is_atext-folds b l u = grind (arith, nat_tests)

is_dot_string-folded : (text : List ℕ) → is_dot_string (folded text) ≡ is_dot_string text
is_dot_string-folded text = ap (λ parts. list_all (is_run_of is_atext) parts) (slice_split-folded text) ∙ all_runs-folded is_atext is_atext-folds (slice_split is_dot text)

abbrev is_special : ℕ → Bool
is_special b = (b == 34) || (b == 92)

is_special-folds : IsFoldable is_special
is_special-folds b l u = grind (arith, nat_tests)

quoted_byte-folded : (b : ℕ) → quoted_byte (to_ascii_lowercase b) ≡ folded (quoted_byte b)
quoted_byte-folded b = ap (λ t. cond t (92 ∷ to_ascii_lowercase b ∷ []) (to_ascii_lowercase b ∷ [])) (same_folded is_special is_special-folds b) ∙ at (is_special b) where
  at : (t : Bool) → cond t (92 ∷ to_ascii_lowercase b ∷ []) (to_ascii_lowercase b ∷ []) ≡ folded (cond t (92 ∷ b ∷ []) (b ∷ []))
  at true = refl
  at false = refl

quoted-folded : (text : List ℕ) → flat_map quoted_byte (folded text) ≡ folded (flat_map quoted_byte text)
quoted-folded [] = refl
quoted-folded (b ∷ bs) =
    ap (λ t. t ++ flat_map quoted_byte (folded bs)) (quoted_byte-folded b)
    ∙ ap (λ t. folded (quoted_byte b) ++ t) (quoted-folded bs)
    ∙ sym (map-append to_ascii_lowercase (quoted_byte b) (flat_map quoted_byte bs))

local_text_of-folded : (local : List ℕ) → local_text_of (folded local) ≡ folded (local_text_of local)
unfolding local_text_of
local_text_of-folded local = ap (λ t. cond t (folded local) (34 ∷ flat_map quoted_byte (folded local) ++ 34 ∷ [])) (is_dot_string-folded local) ∙ at (is_dot_string local) where
  at : (t : Bool) → cond t (folded local) (34 ∷ flat_map quoted_byte (folded local) ++ 34 ∷ []) ≡ folded (cond t local (34 ∷ flat_map quoted_byte local ++ 34 ∷ []))
  at true = refl
  at false = ap (λ t. 34 ∷ t ++ 34 ∷ []) (quoted-folded local) ∙ ap (λ t. 34 ∷ t) (sym (map-append to_ascii_lowercase (flat_map quoted_byte local) (34 ∷ [])))

-- an address that is written and then folded is its key
pub key_written : (local domain : List ℕ) → folded ((local_text_of local ++ 64 ∷ []) ++ domain) ≡ address_key local domain
key_written local domain =
    map-append to_ascii_lowercase (local_text_of local ++ 64 ∷ []) domain
    ∙ ap (λ t. t ++ folded domain) (map-append to_ascii_lowercase (local_text_of local) (64 ∷ []))
    ∙ ap (λ t. t ++ 64 ∷ [] ++ folded domain) (sym (local_text_of-folded local))

-- The pattern of an address that reads at an origin.
abbrev pub pattern_at : Result AddressParts TextFault → Option (List ℕ)
pattern_at (Ok a) = Some (address_key a.local a.domain)
pattern_at (Err fault) = None

abbrev more_checks : Spelled → List Check
more_checks s = (is_bad_domain s.domain, BadDomain) ∷ (is_local_too_long s.local || is_domain_too_long s.local s.domain, TooLong) ∷ []

spelling-fault : (text : List ℕ) (fault : TextFault) → local_check (local_cut text) ≡ Err fault → spelling_of text ≡ Err fault
unfolding spelling_of
spelling-fault text fault h = checked-front_err (local_checks (local_cut text)) (more_checks (spelled_of text)) (spelled_of text) fault h

spelling-more : (text : List ℕ) → local_check (local_cut text) ≡ Ok tt → spelling_of text ≡ checked (more_checks (spelled_of text)) (spelled_of text)
unfolding spelling_of
spelling-more text h = checked-front_ok (local_checks (local_cut text)) (more_checks (spelled_of text)) (spelled_of text) h

no_domain : (local : List ℕ) (bad long : Bool) → address_pattern (checked ((bad, BadDomain) ∷ (long, TooLong) ∷ []) (record { local = local; domain = None })) ≡ None
no_domain local true long = refl
no_domain local false true = refl
no_domain local false false = refl

a_domain : (origin local domain : List ℕ) (bad long : Bool) → (let s : Spelled = record { local = local; domain = Some domain } in address_pattern (checked ((bad, BadDomain) ∷ (long, TooLong) ∷ []) s) ≡ pattern_at (result_map (at_origin origin) (checked ((bad, BadDomain) ∷ (long, TooLong) ∷ []) s)))
a_domain origin local domain true long = refl
a_domain origin local domain false true = refl
a_domain origin local domain false false = refl

abbrev spelled_at : List ℕ → List ℕ → Spelled
spelled_at local rest = record { local = local; domain = spelled_domain rest }

abbrev read_at : List ℕ → List ℕ → Result Spelled TextFault
read_at local rest = checked (more_checks (spelled_at local rest)) (spelled_at local rest)

named_no_domain : (text : List ℕ) → local_check (local_cut text) ≡ Ok tt → is_empty (local_cut text).rest ≡ true → names_domain text ≡ false
named_no_domain text h e = at (is_local_too_long (local_of (local_cut text))) refl where
  at : (long : Bool) → is_local_too_long (local_of (local_cut text)) ≡ long → names_domain text ≡ false
  at true l = ap is_domain_fault (name-too_long text h e l)
  at false l = ap is_domain_fault (name-ok text h e l)

-- A text that is no name, but for its domain, is read as an address at any origin.
pub domain_named : (origin text : List ℕ) → names_domain text ≡ true → address_pattern (spelling_of text) ≡ pattern_at (address_of origin text)
domain_named origin text named = at (local_check (local_cut text)) refl where
  behind : local_check (local_cut text) ≡ Ok tt → (rest : List ℕ) → (local_cut text).rest ≡ rest → address_pattern (read_at (local_of (local_cut text)) rest) ≡ pattern_at (result_map (at_origin origin) (read_at (local_of (local_cut text)) rest))
  behind h [] e = absurd (true≢false (sym named ∙ named_no_domain text h (ap is_empty e)))
  behind h (b ∷ bs) e = let local = local_of (local_cut text) in a_domain origin local (folded bs) (is_bad_domain (Some (folded bs))) (is_local_too_long local || is_domain_too_long local (Some (folded bs)))

  at : (front : Result (Unit {0}) TextFault) → local_check (local_cut text) ≡ front → address_pattern (spelling_of text) ≡ pattern_at (result_map (at_origin origin) (spelling_of text))
  at (Err fault) h = rw (spelling-fault text fault h) refl
  at (Ok u) h = rw (spelling-more text h) (behind h (local_cut text).rest refl)

-- Any other text has no address with a domain.
pub domain_not_named : (text : List ℕ) → names_domain text ≡ false → address_pattern (spelling_of text) ≡ None
domain_not_named text named = at (local_check (local_cut text)) refl where
  behind : local_check (local_cut text) ≡ Ok tt → (rest : List ℕ) → (local_cut text).rest ≡ rest → address_pattern (read_at (local_of (local_cut text)) rest) ≡ None
  behind h [] e = let local = local_of (local_cut text) in no_domain local false (is_local_too_long local || is_domain_too_long local None)
  behind h (b ∷ bs) e = absurd (true≢false (sym (ap is_domain_fault (name-domain_fault text h (ap is_empty e))) ∙ named))

  at : (front : Result (Unit {0}) TextFault) → local_check (local_cut text) ≡ front → address_pattern (spelling_of text) ≡ None
  at (Err fault) h = rw (spelling-fault text fault h) refl
  at (Ok u) h = rw (spelling-more text h) (behind h (local_cut text).rest refl)

abbrev pub choice_at : List ℕ → List ℕ → Choice
choice_at name nexthop = cond (is_empty name) (nexthop_alone (some_text nexthop)) (via_or_unknown (transport_named name) (some_text nexthop))

-- A result that doesn't refuse is cut at its first colon.
pub choice_cut : (text name rest : List ℕ) (place : ℕ) → begins_with (codes "error:") text ≡ false → place ≡ position_or_len is_colon text → name ≡ take place text → rest ≡ drop place text → choice_of (Some text) ≡ choice_at name (drop 1 rest)
choice_cut text name rest place plain at front back =
    let before : before_first is_colon text ≡ name = ap (λ n. take n text) (sym at) ∙ sym front in
    let after : after_first is_colon text ≡ drop 1 rest = ap (λ n. drop (n + 1) text) (sym at) ∙ sym (drop-drop 1 place text) ∙ ap (drop 1) (sym back) in
    ap (λ t. cond t (Refused (trimmed (drop 6 text))) (choice_at (before_first is_colon text) (after_first is_colon text))) plain
    ∙ ap (λ t. choice_at t (after_first is_colon text)) before
    ∙ ap (choice_at name) after

-- a text that refuses begins with `error:`
pub not_refused : (text : List ℕ) (found : Option (List ℕ)) → found ≡ cond (begins_with (codes "error:") text) (Some (drop 6 text)) None → found ≡ None → begins_with (codes "error:") text ≡ false
not_refused text found is none = at (begins_with (codes "error:") text) (sym none ∙ is) where
  at : (t : Bool) → None ≡ cond t (Some (drop 6 text)) None → t ≡ false
  at true e = cc
  at false e = refl

pub choice_unknown : (text name rest : List ℕ) (place : ℕ) → begins_with (codes "error:") text ≡ false → place ≡ position_or_len is_colon text → name ≡ take place text → rest ≡ drop place text → is_empty name ≡ false → None ≡ transport_named name → Unknown ≡ choice_of (Some text)
choice_unknown text name rest place plain at front back some none =
    let nexthop = some_text (drop 1 rest) in
    ap (λ t. via_or_unknown t nexthop) none
    ∙ sym (ap (λ t. cond t (nexthop_alone nexthop) (via_or_unknown (transport_named name) nexthop)) some)
    ∙ sym (choice_cut text name rest place plain at front back)
