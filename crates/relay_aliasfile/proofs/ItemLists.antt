-- The texts of a list's items, their items and their faults, one after another.
use Rattle.std.proofs.Common.{◌≡◌, ℕ, ◌+◌, Bool, true, false, cond, List, [], ◌∷◌, ◌++◌, take, drop, filter, map, refl, sym, ap, ◌∙◌, append_assoc, Option, Some, None}
use Rattle.std.specs.Prelude.{slice_get}
use Rattle.std.specs.Bool.{IsTrue}
use Rattle.std.specs.List.{cons_option, flat_map}
use Rattle.relay_text.specs.Bytes.{trimmed}
use Rattle.relay_text.specs.Quotes.{places_outside}
use Rattle.relay_text.specs.PlainTexts.{is_open_text}
use Rattle.relay_text.specs.declared.lines.Line.{Line}
use Rattle.relay_aliasfile.specs.Items.{item_texts, is_text, item_of, is_bad, good_items}
use Rattle.relay_aliasfile.specs.IncludeFiles.{bad_item_faults}
use Rattle.relay_aliasfile.specs.Lists.{text_faults, items_of, faults_of}
use Rattle.relay_aliasfile.specs.MailboxFiles.{fault}
use Rattle.relay_aliasfile.specs.declared.item.Item.{Item}
use Rattle.relay_aliasfile.specs.declared.fault.FaultKind.TheVariants.{BadItem}
use Rattle.relay_aliasfile.proofs.Outside.{pieces_outside-none, pieces_outside-cut}
use Rattle.relay_aliasfile.proofs.OpenTexts.{item_texts-open_end}

first_text : (t : Bool) (x : List ℕ) (xs : List (List ℕ)) → cond t (x ∷ xs) xs ≡ cond t (x ∷ []) [] ++ xs
first_text true x xs = refl
first_text false x xs = refl

-- the texts of a list, by the place of its first comma outside quotes
pub item_texts-cut : (list : List ℕ) (place : ℕ) → Some place ≡ slice_get (places_outside 44 list) 0 → item_texts list ≡ filter is_text (trimmed (take place list) ∷ []) ++ item_texts (drop (place + 1) list)
item_texts-cut list place h =
    ap (λ pieces. filter is_text (map trimmed pieces)) (pieces_outside-cut list place h)
    ∙ first_text (is_text (trimmed (take place list))) (trimmed (take place list)) (item_texts (drop (place + 1) list))

pub item_texts-last : (list : List ℕ) → None ≡ slice_get (places_outside 44 list) 0 → item_texts list ≡ filter is_text (trimmed list ∷ []) ++ []
item_texts-last list h =
    ap (λ pieces. filter is_text (map trimmed pieces)) (pieces_outside-none list h)
    ∙ first_text (is_text (trimmed list)) (trimmed list) []

-- what a list gives that is one text without quotes
pub one_item : (text : List ℕ) (found : Option Item) → IsTrue (is_open_text text) → found ≡ item_of text → good_items text ≡ cons_option found []
one_item text found good is = ap items_of (item_texts-open_end text good) ∙ ap (λ o. cons_option o []) (sym is)

pub one_fault : (line : ℕ) (text : List ℕ) → IsTrue (is_open_text text) → bad_item_faults line text ≡ text_faults line text
one_fault line text good = ap (faults_of line) (item_texts-open_end text good) ∙ at (is_bad text) where
  at : (t : Bool) → map (λ _. fault line BadItem) (cond t (text ∷ []) []) ≡ cond t (fault line BadItem ∷ []) []
  at true = refl
  at false = refl

-- one more line of a file, by what it gives
pub line_read : {X : Type 0} (f : Line → List X) (line : Line) (before after : List Line) (old new given : List X) → before ≡ line ∷ after → f line ≡ given → new ≡ old ++ given
    → new ++ flat_map f after ≡ old ++ flat_map f before
line_read f line before after old new given next is more =
    ap (λ xs. xs ++ flat_map f after) (more ∙ ap (λ g. old ++ g) (sym is)) ∙ append_assoc old (f line) (flat_map f after) ∙ ap (λ lines. old ++ flat_map f lines) (sym next)
