-- Items without quotes in a list, and what they are.
use Rattle.std.proofs.Common.{◌≡◌, ℕ, suc, ◌+◌, ◌-◌, ◌<◌, ◌%◌, Bool, true, false, not, ◌&&◌, ◌||◌, ◌==◌, cond, List, [], ◌∷◌, ◌++◌, length, take, drop, get_or, map, filter, codes, refl, sym, ap, ◌∙◌, arith, inl, inr, Some, None}
use Rattle.std.specs.Bool.{IsTrue}
use Rattle.std.specs.Char.{to_ascii_lowercase}
use Rattle.std.specs.Int.{is_in_range}
use Rattle.std.specs.List.{list_all, prefix_len, suffix_len, onto_first, count_by}
use Rattle.std.proofs.lemmas.Bool.{cases_Bool, not-true, and_parts, and_from, or_parts, or_from, or_cases, or_right, eqb-true, both_ways}
use Rattle.std.proofs.lemmas.Bool.Decides.{nat_tests}
use Rattle.std.proofs.lemmas.List.{take_all, take_at, append-nil}
use Rattle.std.proofs.Math.Seq.{drop-append-add}
use Rattle.std.specs.Prelude.{option_map, option_and_then}
use Rattle.std.proofs.lemmas.List.Sums.{suffix_len-take_no, sum_by-cons}
use Rattle.relay_text.specs.Bytes.{is_white, trimmed, trimmed_start, trimmed_end, begins_with, ends_with, begins_with_word}
use Rattle.relay_text.specs.Addresses.{is_empty, is_atext, is_dot}
use Rattle.relay_text.specs.PlainTexts.{is_open_byte, is_open_text}
use Rattle.relay_text.proofs.Limits.{plain_quotable}
use Rattle.relay_text.specs.Quotes.{marks_from, is_quote, quote_count}
use Rattle.relay_text.specs.QuotedStrings.{string_content}
use Rattle.relay_aliasfile.specs.Items.{is_text, item_texts, item_of, is_item_byte, is_well_quoted, special_item, bracketed_item, address_item}
use Rattle.relay_aliasfile.specs.AliasFiles.{heading_of, heading_with, heading_at}
use Rattle.relay_aliasfile.specs.MailboxFiles.{folded_name_of}
use Rattle.relay_aliasfile.specs.ItemTexts.{behind_comma}
use Rattle.relay_aliasfile.specs.QuoteStates.{at_start, past}
use Rattle.relay_aliasfile.proofs.ItemForms.{item_of-plain, first_of-none, ends_one}
use Rattle.relay_aliasfile.proofs.Outside.{first_from, first_is, pieces_from, pieces_outside-from}

-- ---- bytes
other : (c : ℕ) → is_open_byte c ≡ false → (b : ℕ) → is_open_byte b ≡ true → (b == c) ≡ false
other c bad b good = elim (cases_Bool (b == c)) [
  | inl e ↦ absurd (both_ways (is_open_byte c) bad (ap is_open_byte (sym (eqb-true b c e)) ∙ good))
  | inr e ↦ e
]

not_white : (b : ℕ) → is_open_byte b ≡ true → is_white b ≡ false
not_white b good = or_from (b == 32) (b == 9) (other 32 refl b good) (other 9 refl b good)

-- a reader passes such a byte as it passes white space, and stays at the start
stays : (b : ℕ) → (b == 34) ≡ false → (b == 92) ≡ false → past at_start b ≡ at_start
stays b quote escape = rw (quote, escape) refl

white_stays : (b : ℕ) → is_white b ≡ true → (past at_start b ≡ at_start) × ((b == 44) ≡ false)
white_stays b white = elim (or_cases (b == 32) (b == 9) white) [
  | inl e ↦ rw (eqb-true b 32 e) (refl, refl)
  | inr e ↦ rw (eqb-true b 9 e) (refl, refl)
]

-- ---- the pieces of a list
open_piece : (text more : List ℕ) → list_all is_open_byte text ≡ true → pieces_from 44 at_start (text ++ 44 ∷ more) ≡ text ∷ pieces_from 44 at_start more
open_piece [] more good = refl
open_piece (b ∷ bs) more good =
    let parts = and_parts (is_open_byte b) (list_all is_open_byte bs) good in
    let here : past at_start b ≡ at_start = stays b (other 34 refl b parts.0) (other 92 refl b parts.0) in
    rw (other 44 refl b parts.0) (ap (λ s. onto_first b (pieces_from 44 s (bs ++ 44 ∷ more))) here ∙ ap (onto_first b) (open_piece bs more parts.1))

open_end : (text : List ℕ) → list_all is_open_byte text ≡ true → pieces_from 44 at_start text ≡ text ∷ []
open_end [] good = refl
open_end (b ∷ bs) good =
    let parts = and_parts (is_open_byte b) (list_all is_open_byte bs) good in
    let here : past at_start b ≡ at_start = stays b (other 34 refl b parts.0) (other 92 refl b parts.0) in
    rw (other 44 refl b parts.0) (ap (λ s. onto_first b (pieces_from 44 s bs)) here ∙ ap (onto_first b) (open_end bs parts.1))

-- ---- trimming
no_front : (text : List ℕ) → list_all is_open_byte text ≡ true → trimmed_start text ≡ text
no_front [] good = refl
no_front (b ∷ bs) good = rw (not_white b ((and_parts (is_open_byte b) (list_all is_open_byte bs) good).0)) refl

last_open : (text : List ℕ) → list_all is_open_byte text ≡ true → 0 < length text → is_open_byte (get_or text (length text - 1) 0) ≡ true
last_open [] good some = absurd (omega arith)
last_open (b ∷ []) good some = (and_parts (is_open_byte b) true good).0
last_open (b ∷ c ∷ cs) good some =
    let parts = and_parts (is_open_byte b) (list_all is_open_byte (c ∷ cs)) good in
    let place : length (b ∷ c ∷ cs) - 1 ≡ suc (length (c ∷ cs) - 1) = omega arith in
    ap (λ k. is_open_byte (get_or (b ∷ c ∷ cs) k 0)) place ∙ last_open (c ∷ cs) parts.1 (omega arith)

no_end : (text : List ℕ) → list_all is_open_byte text ≡ true → trimmed_end text ≡ text
no_end [] good = refl
no_end (b ∷ bs) good =
    let text : List ℕ = b ∷ bs in
    let last : is_white (get_or (b ∷ bs) (length (b ∷ bs) - 1) 0) ≡ false = not_white (get_or (b ∷ bs) (length (b ∷ bs) - 1) 0) (last_open (b ∷ bs) good (omega arith)) in
    let none : suffix_len is_white (b ∷ bs) ≡ 0 =
    ap (suffix_len is_white) (sym (take_all (length text) text (omega arith))) ∙ suffix_len-take_no is_white text (length text) 0 (omega arith) (omega arith) last in
    take_all _ text (omega (arith, none))

open_trimmed : (text : List ℕ) → list_all is_open_byte text ≡ true → trimmed text ≡ text
open_trimmed text good = ap trimmed_end (no_front text good) ∙ no_end text good

white_trimmed : (b : ℕ) (text : List ℕ) → is_white b ≡ true → trimmed_start (b ∷ text) ≡ trimmed_start text
white_trimmed b text white = rw white (let more : 1 + prefix_len is_white text ≡ suc (prefix_len is_white text) = omega arith in ap (λ k. drop k (b ∷ text)) more)

-- ---- the items of a list
abbrev texts_of : List (List ℕ) → List (List ℕ)
texts_of pieces = filter is_text (map trimmed pieces)

open_first : (text : List ℕ) (pieces : List (List ℕ)) → IsTrue (is_open_text text) → texts_of (text ∷ pieces) ≡ text ∷ texts_of pieces
open_first text pieces good =
    let parts = and_parts (not (is_empty text)) (list_all is_open_byte text) good in
    rw (open_trimmed text parts.1, parts.0) refl

pub item_texts-open : (text more : List ℕ) → IsTrue (is_open_text text) → item_texts (text ++ 44 ∷ more) ≡ text ∷ item_texts more
item_texts-open text more good =
    let bytes = (and_parts (not (is_empty text)) (list_all is_open_byte text) good).1 in
    ap texts_of (pieces_outside-from 44 (text ++ 44 ∷ more) ∙ open_piece text more bytes)
    ∙ open_first text (pieces_from 44 at_start more) good
    ∙ ap (λ ts. text ∷ texts_of ts) (sym (pieces_outside-from 44 more))

pub item_texts-open_end : (text : List ℕ) → IsTrue (is_open_text text) → item_texts text ≡ text ∷ []
item_texts-open_end text good =
    let bytes = (and_parts (not (is_empty text)) (list_all is_open_byte text) good).1 in
    ap texts_of (pieces_outside-from 44 text ∙ open_end text bytes) ∙ open_first text [] good

-- white space before a list changes none of its items
onto_white : (b : ℕ) (pieces : List (List ℕ)) → is_white b ≡ true → texts_of (onto_first b pieces) ≡ texts_of pieces
onto_white b [] white = rw (ap trimmed_end (white_trimmed b [] white)) refl
onto_white b (piece ∷ pieces) white = ap (λ t. filter is_text (t ∷ map trimmed pieces)) (ap trimmed_end (white_trimmed b piece white))

white_before : (b : ℕ) (bs : List ℕ) → is_white b ≡ true → item_texts (b ∷ bs) ≡ item_texts bs
white_before b bs white =
    let same = white_stays b white in
    let pieces : pieces_from 44 at_start (b ∷ bs) ≡ onto_first b (pieces_from 44 at_start bs) = rw same.1 (ap (λ s. onto_first b (pieces_from 44 s bs)) same.0) in
    ap texts_of (pieces_outside-from 44 (b ∷ bs) ∙ pieces) ∙ onto_white b (pieces_from 44 at_start bs) white ∙ ap texts_of (sym (pieces_outside-from 44 bs))

pub item_texts-trimmed : (text : List ℕ) → item_texts (trimmed_start text) ≡ item_texts text
item_texts-trimmed [] = refl
item_texts-trimmed (b ∷ bs) = elim (cases_Bool (is_white b)) [
  | inl e ↦ ap item_texts (white_trimmed b bs e) ∙ item_texts-trimmed bs ∙ sym (white_before b bs e)
  | inr e ↦ let stays : trimmed_start (b ∷ bs) ≡ b ∷ bs = rw e refl in ap item_texts stays
]

-- an item at the front of a list, and what a comma or the end leaves behind it
pub item_texts-front : (text rest more : List ℕ) → IsTrue (is_open_text text) → Some more ≡ behind_comma rest → item_texts (text ++ rest) ≡ text ∷ item_texts more
item_texts-front text [] more good h = let none : more ≡ [] = cc in ap item_texts (append-nil text) ∙ item_texts-open_end text good ∙ ap (λ m. text ∷ item_texts m) (sym none)
item_texts-front text (b ∷ bs) more good h = elim (cases_Bool (b == 44)) [
  | inl e ↦
      let found : Some more ≡ Some bs = h ∙ rw e refl in
      let same : more ≡ bs = cc in
      ap (λ (c : ℕ). item_texts (text ++ c ∷ bs)) (eqb-true b 44 e) ∙ item_texts-open text bs good ∙ ap (λ m. text ∷ item_texts m) (sym same)
  | inr e ↦ let found : Some more ≡ None = h ∙ rw e refl in cc
]

-- ---- the heading of a line on which a colon stands right behind such a text
first_colon : (text list : List ℕ) → list_all is_open_byte text ≡ true → first_from 58 at_start (text ++ 58 ∷ list) ≡ Some (length text)
first_colon [] list good = refl
first_colon (b ∷ bs) list good =
    let parts = and_parts (is_open_byte b) (list_all is_open_byte bs) good in
    let here : past at_start b ≡ at_start = stays b (other 34 refl b parts.0) (other 92 refl b parts.0) in
    rw (other 58 refl b parts.0) (ap (λ s. option_map (λ n. 1 + n) (first_from 58 s (bs ++ 58 ∷ list))) here ∙ ap (option_map (λ n. 1 + n)) (first_colon bs list parts.1) ∙ ap (λ n. Some n) (omega arith))

pub heading_of-open : (text list : List ℕ) → IsTrue (is_open_text text) → heading_of (text ++ 58 ∷ list) ≡ option_map (heading_with list) (folded_name_of text)
unfolding heading_of
heading_of-open text list good =
    let line : List ℕ = text ++ 58 ∷ list in
    let bytes = (and_parts (not (is_empty text)) (list_all is_open_byte text) good).1 in
    let before : trimmed_end (take (length text) line) ≡ text = ap trimmed_end (take_at text (58 ∷ list) (length text) refl) ∙ no_end text bytes in
    let behind : drop (length text + 1) line ≡ list = drop-append-add text (58 ∷ list) 1 in
    ap (option_and_then (heading_at line)) (first_is 58 line ∙ first_colon text list bytes)
    ∙ ap (λ l. option_map (heading_with l) (folded_name_of (trimmed_end (take (length text) line)))) behind
    ∙ ap (λ t. option_map (heading_with list) (folded_name_of t)) before

-- ---- what such a text is, where it begins neither as a file nor as a command
item_byte : (b : ℕ) → is_open_byte b ≡ true → is_item_byte b ≡ true
item_byte b good = elim (or_cases (is_atext b || is_dot b) (b == 64) good) [
  | inl e ↦ or_right (b == 9) (is_in_range 32 126 b) (plain_quotable b e)
  | inr e ↦ ap is_item_byte (eqb-true b 64 e)
]

item_bytes : (text : List ℕ) → list_all is_open_byte text ≡ true → list_all is_item_byte text ≡ true
item_bytes [] good = refl
item_bytes (b ∷ bs) good =
    let parts = and_parts (is_open_byte b) (list_all is_open_byte bs) good in
    and_from (is_item_byte b) (list_all is_item_byte bs) (item_byte b parts.0) (item_bytes bs parts.1)

no_quotes : (escaped : Bool) (text : List ℕ) → list_all is_open_byte text ≡ true → count_by is_quote (marks_from escaped text) ≡ 0
no_quotes escaped [] good = refl
no_quotes escaped (b ∷ bs) good =
    let parts = and_parts (is_open_byte b) (list_all is_open_byte bs) good in
    let rest = marks_from (not escaped && (b == 92)) bs in
    let count : count_by is_quote (marks_from escaped (b ∷ bs)) ≡ cond ((b == 34) && not escaped) 1 0 + count_by is_quote (marks_from (not escaped && (b == 92)) bs) =
    sum_by-cons (λ m. cond (is_quote m) 1 0) (record { byte = b; escaped = escaped }) rest in
    let here : ◌≡◌ {A = ℕ} (cond ((b == 34) && not escaped) 1 0) 0 = rw (other 34 refl b parts.0) refl in
    let more : count_by is_quote (marks_from (not escaped && (b == 92)) bs) ≡ 0 = no_quotes (not escaped && (b == 92)) bs parts.1 in
    omega (arith, count, here, more)

well_quoted : (text : List ℕ) → list_all is_open_byte text ≡ true → is_well_quoted text ≡ true
well_quoted text good =
    and_from (list_all is_item_byte text) (quote_count text % 2 == 0) (item_bytes text good) (ap (λ n. n % 2 == 0) (no_quotes false text good))

no_string : (text : List ℕ) → list_all is_open_byte text ≡ true → None ≡ string_content text
no_string [] good = refl
no_string (b ∷ bs) good = rw (other 34 refl b ((and_parts (is_open_byte b) (list_all is_open_byte bs) good).0)) refl

no_colon : (b : ℕ) → (b == 58) ≡ false → (to_ascii_lowercase b == 58) ≡ false
no_colon b h = grind (arith, nat_tests)

no_include : (text : List ℕ) → list_all is_open_byte text ≡ true → begins_with_word (codes ":include:") text ≡ false
no_include [] good = refl
no_include (b ∷ bs) good = rw (no_colon b (other 58 refl b ((and_parts (is_open_byte b) (list_all is_open_byte bs) good).0))) refl

no_special : (text : List ℕ) → list_all is_open_byte text ≡ true → begins_with (47 ∷ []) text ≡ false → begins_with (124 ∷ []) text ≡ false → special_item text ≡ None
no_special text good slash bar = rw (slash, bar, no_include text good) refl

no_bracket : (text : List ℕ) → list_all is_open_byte text ≡ true → 0 < length text → bracketed_item text ≡ None
no_bracket text good some =
    let ends : ends_with (codes ">") text ≡ false = sym (ends_one text 62 (omega arith)) ∙ other 62 refl _ (last_open text good some) in
    rw ends refl

some_length : (text : List ℕ) → is_empty text ≡ false → 0 < length text
some_length [] h = cc
some_length (b ∷ bs) h = omega arith

pub item_of_open : (text : List ℕ) → IsTrue (is_open_text text) → (begins_with (47 ∷ []) text || begins_with (124 ∷ []) text) ≡ false → item_of text ≡ address_item text
item_of_open text good plain =
    let parts = and_parts (not (is_empty text)) (list_all is_open_byte text) good in
    let firsts = or_parts (begins_with (47 ∷ []) text) (begins_with (124 ∷ []) text) plain in
    let some : 0 < length text = some_length text (not-true _ parts.0) in
    item_of-plain text (well_quoted text parts.1) (no_string text parts.1)
    ∙ rw (no_special text parts.1 firsts.0 firsts.1, no_bracket text parts.1 some) (first_of-none (address_item text))
