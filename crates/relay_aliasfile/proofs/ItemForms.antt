-- The forms of items.
use Rattle.std.proofs.Common.{◌≡◌, ℕ, ◌+◌, ◌-◌, ◌<◌, ◌≤◌, ◌≢◌, Bool, true, false, not, ◌&&◌, ◌==◌, List, [], ◌∷◌, length, drop, get_or, refl, sym, ap, ◌∙◌, arith, Some, None, Option}
use Rattle.std.specs.Prelude.{slice_get}
use Rattle.std.specs.Bool.{if◌then◌else◌}
use Rattle.std.proofs.lemmas.Bool.{eqb-true, false≢true}
use Rattle.std.proofs.lemmas.List.{at_drop_more, drop_all}
use Rattle.std.proofs.lemmas.Option.{get_or_from_slice_get, slice_get_within}
use Rattle.std.specs.Str.{bytes_eq}
use Rattle.relay_text.specs.Bytes.{ends_with, first_of}
use Rattle.relay_text.specs.Addresses.{local_cut, local_of}
use Rattle.relay_text.specs.QuotedStrings.{string_content}
use Rattle.relay_aliasfile.specs.Items.{item_of, is_well_quoted, is_one_string, content_item}
use Rattle.relay_aliasfile.specs.Specials.{plain_item}
use Rattle.relay_aliasfile.specs.declared.item.Item.{Item}

and_true : (b : Bool) → b ≡ (b && true)
and_true true = refl
and_true false = refl

-- whether it ends with a byte
last_alone : (text : List ℕ) → 1 ≤ length text → drop (length text - 1) text ≡ get_or text (length text - 1) 0 ∷ []
last_alone text some =
    at_drop_more (λ xs. xs) text (length text - 1) 0 (omega arith)
    ∙ ap (λ xs. get_or text (length text - 1) 0 ∷ xs) (drop_all (length text - 1 + 1) text (omega arith))

pub ends_one : (text : List ℕ) (byte : ℕ) → 1 ≤ length text → (get_or text (length text - 1) 0 == byte) ≡ ends_with (byte ∷ []) text
ends_one text byte some = and_true (get_or text (length text - 1) 0 == byte) ∙ ap (λ xs. bytes_eq xs (byte ∷ [])) (sym (last_alone text some))

-- a `<` before a `>` at the end leaves room between them
pub bracket_room : (text : List ℕ) (place : ℕ) → slice_get text place ≡ Some 60 → ends_with (62 ∷ []) text ≡ true → place + 1 ≤ length text - 1
bracket_room text place opens closes =
    let within : place < length text = slice_get_within text place 60 opens in
    let last : get_or text (length text - 1) 0 ≡ 62 = eqb-true _ 62 (ends_one text 62 (omega arith) ∙ closes) in
    let first : get_or text place 0 ≡ 60 = get_or_from_slice_get text place 60 0 opens in
    let other : place ≢ length text - 1 = λ e. let clash : 60 ≡ 62 = sym first ∙ ap (λ k. get_or text k 0) e ∙ last in omega (arith, clash) in
    omega arith

-- which item a text is, by what it is as a quoted string
pub item_of-bad : (text : List ℕ) → is_well_quoted text ≡ false → item_of text ≡ None
unfolding item_of
item_of-bad text h = rw h refl

string_step : (whole : Bool) (inner content : List ℕ) (plain : Option Item) → Some content ≡ (if whole then Some inner else None) → (if whole then content_item inner else plain) ≡ content_item content
string_step true inner content plain h = let same : inner ≡ content = cc in ap content_item same
string_step false inner content plain h = cc

plain_step : (whole : Bool) (inner : List ℕ) (plain : Option Item) → None ≡ (if whole then Some inner else None) → (if whole then content_item inner else plain) ≡ plain
plain_step true inner plain h = cc
plain_step false inner plain h = refl

well_step : (well : Bool) (found : Option Item) → well ≡ true → (if not well then None else found) ≡ found
well_step true found h = refl
well_step false found h = absurd (false≢true h)

pub item_of-string : (text content : List ℕ) → is_well_quoted text ≡ true → Some content ≡ string_content text → item_of text ≡ content_item content
unfolding item_of
item_of-string text content well h = well_step (is_well_quoted text) _ well ∙ string_step (is_one_string text) (local_of (local_cut text)) content (plain_item text) h

pub item_of-plain : (text : List ℕ) → is_well_quoted text ≡ true → None ≡ string_content text → item_of text ≡ plain_item text
unfolding item_of
item_of-plain text well h = well_step (is_well_quoted text) _ well ∙ plain_step (is_one_string text) (local_of (local_cut text)) (plain_item text) h

-- the first of what there is
pub first_of-none : {X : Type 0} (o : Option X) → first_of (None ∷ o ∷ []) ≡ o
first_of-none None = refl
first_of-none (Some x) = refl
