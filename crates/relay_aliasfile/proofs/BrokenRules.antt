-- Why texts are no items.
use Rattle.std.proofs.Common.{◌≡◌, ℕ, ◌==◌, Bool, true, false, not, ◌&&◌, List, [], ◌∷◌, refl, sym, ap, ◌∙◌, Option, Some, None, Result, Ok, Err}
use Rattle.std.specs.Prelude.{option_map, option_and_then, codes, unwrap_or}
use Rattle.std.specs.Bool.{if◌then◌else◌}
use Rattle.std.specs.List.{list_all, list_any, last_or}
use Rattle.std.specs.Result.{result_ok}
use Rattle.relay_text.specs.Bytes.{ends_with, first_of}
use Rattle.relay_text.specs.Quotes.{places_outside}
use Rattle.relay_text.specs.Addresses.{Spelled, checked, local_cut, local_of, spelling_of, is_quotable, is_local_too_long, is_empty}
use Rattle.relay_text.specs.QuotedStrings.{string_content}
use Rattle.relay_text.specs.declared.fault.TextFault.{TextFault}
use Rattle.relay_text.specs.declared.fault.TextFault.TheVariants.{Empty, BadByte, BadQuote, BadDomain, TooLong, Memory}
use Rattle.relay_aliasfile.specs.Items.{item_of, is_well_quoted, is_one_string, content_item, named_item, quoted_name, special_item, bracketed_item, bracketed_at, address_item, spelled_item}
use Rattle.relay_aliasfile.specs.Specials.{plain_item}
use Rattle.relay_aliasfile.specs.ItemReasons.{is_relative_include, unquoted, inside_at, address_in, fault_in, spelling_fault, name_fault, content_fault, address_fault, HasReason, reason_of, form_reason}
use Rattle.relay_aliasfile.specs.declared.item.Item.{Item}
use Rattle.relay_aliasfile.specs.declared.item.Item.TheVariants.{Bare}
use Rattle.relay_aliasfile.specs.declared.reason.ItemReason.{ItemReason}
use Rattle.relay_aliasfile.proofs.ItemForms.{item_of-string, item_of-plain}

-- a fault that has a reason
abbrev IsTold : Option TextFault → Type 0
IsTold None = ⊥
IsTold (Some Memory) = ⊥
IsTold (Some fault) = Unit {0}

-- no spelling wants memory
checked-told : {A : Type 0} (a b c d e : Bool) (s : A) → result_ok (checked ((a, Empty) ∷ (b, BadByte) ∷ (c, BadQuote) ∷ (d, BadDomain) ∷ (e, TooLong) ∷ []) s) ≡ None
    → IsTold (fault_in (checked ((a, Empty) ∷ (b, BadByte) ∷ (c, BadQuote) ∷ (d, BadDomain) ∷ (e, TooLong) ∷ []) s))
checked-told true b c d e s h = tt
checked-told false true c d e s h = tt
checked-told false false true d e s h = tt
checked-told false false false true e s h = tt
checked-told false false false false true s h = tt
checked-told false false false false false s h = cc

spelling-told : (text : List ℕ) → result_ok (spelling_of text) ≡ None → IsTold (spelling_fault text)
unfolding spelling_of
spelling-told text h = checked-told _ _ _ _ _ _ h

unspelled : (r : Result Spelled TextFault) → option_map spelled_item (result_ok r) ≡ None → result_ok r ≡ None
unspelled (Ok s) h = cc
unspelled (Err f) h = refl

address-told : (text : List ℕ) → address_item text ≡ None → IsTold (spelling_fault text)
address-told text h = spelling-told text (unspelled (spelling_of text) h)

-- the content of a quoted string
name-told : (empty quotable long : Bool) (content : List ℕ) → (if not empty && quotable && not long then Some (Bare content) else None) ≡ None
    → IsTold (fault_in (checked {A = Unit {0}} ((empty, Empty) ∷ (not quotable, BadByte) ∷ (long, TooLong) ∷ []) tt))
name-told true quotable long content h = tt
name-told false false long content h = tt
name-told false true true content h = tt
name-told false true false content h = cc

named-told : (at : Bool) (content : List ℕ) → (if at then address_item content else quoted_name content) ≡ None → IsTold (if at then spelling_fault content else name_fault content)
named-told true content h = address-told content h
named-told false content h = name-told (is_empty content) (list_all is_quotable content) (is_local_too_long content) content h

second_none : (o p : Option Item) → first_of (o ∷ p ∷ []) ≡ None → p ≡ None
second_none None None h = refl
second_none None (Some x) h = cc
second_none (Some x) p h = cc

content-told : (content : List ℕ) → content_item content ≡ None → IsTold (content_fault content)
content-told content h = named-told (list_any (λ b. b == 64) content) content (second_none (special_item content) (named_item content) h)

-- what isn't one quoted string
third_none : (o p q : Option Item) → first_of (o ∷ p ∷ q ∷ []) ≡ None → (p ≡ None) × (q ≡ None)
third_none None None None h = (refl, refl)
third_none None None (Some x) h = cc
third_none None (Some x) q h = cc
third_none (Some x) p q h = cc

placed-told : (text : List ℕ) (place : Option ℕ) → option_and_then (bracketed_at text) place ≡ None → address_item text ≡ None → IsTold (spelling_fault (unwrap_or (option_map (inside_at text) place) text))
placed-told text None h g = address-told text g
placed-told text (Some place) h g = address-told (inside_at text place) h

bracketed-told : (ends : Bool) (text : List ℕ) → (if ends then option_and_then (bracketed_at text) (last_or None (places_outside 60 text)) else None) ≡ None → address_item text ≡ None
    → IsTold (spelling_fault (unwrap_or (if ends then option_map (inside_at text) (last_or None (places_outside 60 text)) else None) text))
bracketed-told true text h g = placed-told text (last_or None (places_outside 60 text)) h g
bracketed-told false text h g = address-told text g

plain-told : (text : List ℕ) → plain_item text ≡ None → IsTold (spelling_fault (address_in text))
plain-told text h =
    let both = third_none (special_item text) (bracketed_item text) (address_item text) h in
    bracketed-told (ends_with (codes ">") text) text both.0 both.1

-- a fault that has a reason is broken
fault-broken : (text : List ℕ) (fault : Option TextFault) → is_well_quoted text ≡ true → is_relative_include (unquoted text) ≡ false → address_fault text ≡ fault → IsTold fault → HasReason text (option_and_then reason_of fault)
fault-broken text None well other has told = absurd told
fault-broken text (Some Empty) well other has told = record { well = well; other = other; has = has }
fault-broken text (Some BadByte) well other has told = record { well = well; other = other; has = has }
fault-broken text (Some BadQuote) well other has told = record { well = well; other = other; has = has }
fault-broken text (Some BadDomain) well other has told = record { well = well; other = other; has = has }
fault-broken text (Some TooLong) well other has told = record { well = well; other = other; has = has }
fault-broken text (Some Memory) well other has told = absurd told

form-broken : (text : List ℕ) (relative : Bool) (fault : Option TextFault) → is_well_quoted text ≡ true → is_relative_include (unquoted text) ≡ relative → address_fault text ≡ fault → IsTold fault
    → HasReason text (if relative then Some ItemReason.RelativePath else option_and_then reason_of fault)
form-broken text true fault well is has told = (well, is)
form-broken text false fault well is has told = fault-broken text fault well is has told

-- what a text is without its quotes, and its fault, where it is one quoted string and where it isn't
string_unquoted : (whole : Bool) (inner text content : List ℕ) → Some content ≡ (if whole then Some inner else None) → (if whole then inner else text) ≡ content
string_unquoted true inner text content h = let same : inner ≡ content = cc in same
string_unquoted false inner text content h = cc

string_fault : (whole : Bool) (inner content : List ℕ) (plain : Option TextFault) → Some content ≡ (if whole then Some inner else None) → (if whole then content_fault inner else plain) ≡ content_fault content
string_fault true inner content plain h = let same : inner ≡ content = cc in ap content_fault same
string_fault false inner content plain h = cc

plain_unquoted : (whole : Bool) (inner text : List ℕ) → None ≡ (if whole then Some inner else None) → (if whole then inner else text) ≡ text
plain_unquoted true inner text h = cc
plain_unquoted false inner text h = refl

plain_fault : (whole : Bool) (inner : List ℕ) (plain : Option TextFault) → None ≡ (if whole then Some inner else None) → (if whole then content_fault inner else plain) ≡ plain
plain_fault true inner plain h = cc
plain_fault false inner plain h = refl

-- the reason that is found is broken
string-broken : (text content : List ℕ) → is_well_quoted text ≡ true → Some content ≡ string_content text → item_of text ≡ None → HasReason text (form_reason content (content_fault content))
string-broken text content well is bad =
    let inner : unquoted text ≡ content = string_unquoted (is_one_string text) (local_of (local_cut text)) text content is in
    let has : address_fault text ≡ content_fault content = string_fault (is_one_string text) (local_of (local_cut text)) content (spelling_fault (address_in text)) is in
    form-broken text (is_relative_include content) (content_fault content) well (ap is_relative_include inner) has (content-told content (sym (item_of-string text content well is) ∙ bad))

plain-broken : (text : List ℕ) → is_well_quoted text ≡ true → None ≡ string_content text → item_of text ≡ None → HasReason text (form_reason text (spelling_fault (address_in text)))
plain-broken text well is bad =
    let inner : unquoted text ≡ text = plain_unquoted (is_one_string text) (local_of (local_cut text)) text is in
    let has : address_fault text ≡ spelling_fault (address_in text) = plain_fault (is_one_string text) (local_of (local_cut text)) (spelling_fault (address_in text)) is in
    form-broken text (is_relative_include text) (spelling_fault (address_in text)) well (ap is_relative_include inner) has (plain-told text (sym (item_of-plain text well is) ∙ bad))

-- both tests of a text's bytes and quotes
pub well_of : (a b : Bool) → a ≡ true → b ≡ true → (a && b) ≡ true
well_of true true h g = refl
well_of true false h g = cc
well_of false b h g = cc

pub found-string : (text content a b : List ℕ) (fault : Option TextFault) (reason : Option ItemReason) → is_well_quoted text ≡ true → Some content ≡ string_content text
    → a ≡ content → b ≡ content → fault ≡ content_fault a → reason ≡ form_reason b fault → item_of text ≡ None → HasReason text reason
found-string text content a b fault reason well is ea eb ef er bad = rw (er, ef, ea, eb) (string-broken text content well is bad)

pub found-plain : (text a : List ℕ) (fault : Option TextFault) (reason : Option ItemReason) → is_well_quoted text ≡ true → None ≡ string_content text
    → a ≡ address_in text → fault ≡ spelling_fault a → reason ≡ form_reason text fault → item_of text ≡ None → HasReason text reason
found-plain text a fault reason well is ea ef er bad = rw (er, ef, ea) (plain-broken text well is bad)
