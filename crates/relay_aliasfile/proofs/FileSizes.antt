-- How many entries, items and names a file has.
use Rattle.std.proofs.Common.{ℕ, ◌+◌, ◌≤◌, Bool, true, false, not, cond, suc, List, [], ◌∷◌, ◌++◌, length, map, Option, Some, None, arith}
use Rattle.std.specs.List.{filter, filter_map, flat_map, cons_option}
use Rattle.std.specs.Str.{bytes_eq}
use Rattle.std.proofs.lemmas.List.{length-append}
use Rattle.relay_text.specs.Bytes.{trimmed, each_after, firsts}
use Rattle.relay_text.specs.Quotes.{pieces_outside}
use Rattle.relay_text.specs.Lines.{kept_lines, logical_lines_of}
use Rattle.relay_text.specs.declared.lines.Line.{Line}
use Rattle.relay_text.proofs.Sizes.{length-filter_most, length-trimmed, total, total-pieces_outside, length-kept_lines, texts_size, texts_size-kept_lines, length-logical_lines}
use Rattle.relay_aliasfile.specs.Items.{is_text, item_texts, item_of, good_items}
use Rattle.relay_aliasfile.specs.AliasFiles.{Heading, heading_of, has_entry, entry_of, entry_in, alias_file_of}
use Rattle.relay_aliasfile.specs.IncludeFiles.{items_in, include_file_of}
use Rattle.relay_aliasfile.specs.MailboxFiles.{name_in, mailbox_file_of}
use Rattle.relay_aliasfile.specs.declared.entry.Entry.{Entry}

length-cons_option : {X : Type 0} (o : Option X) (xs : List X) → length (cons_option o xs) ≤ suc (length xs)
length-cons_option None xs = omega arith
length-cons_option (Some x) xs = omega arith

length-filter_map : {X Y : Type 0} (f : X → Option Y) (xs : List X) → length (filter_map f xs) ≤ length xs
length-filter_map f [] = omega arith
length-filter_map f (x ∷ xs) = omega (arith, length-cons_option (f x) (filter_map f xs), length-filter_map f xs)

-- An alias file has at most one entry in a logical line.
one_entry : (earlier : List Line) (l : Line) → length (entry_in earlier l) ≤ 1
one_entry earlier l = at (heading_of l.text) where
  one : (t : Bool) (e : Entry) → length (cond t [] (e ∷ [])) ≤ 1
  one true e = omega arith
  one false e = omega arith

  at : (o : Option Heading) → length (entry_of earlier l o) ≤ 1
  at None = omega arith
  at (Some h) = one (has_entry earlier h.name) _

length-each_after : {X Y : Type 0} (f : List X → X → List Y) → ((before : List X) (x : X) → length (f before x) ≤ 1) → (before xs : List X) → length (each_after f before xs) ≤ length xs
length-each_after f one before [] = omega arith
length-each_after f one before (x ∷ xs) = omega (arith, length-append (f before x) (each_after f (before ++ x ∷ []) xs), one before x, length-each_after f one (before ++ x ∷ []) xs)

pub entries_fit : (text : List ℕ) → length (alias_file_of text).entries ≤ length text
unfolding alias_file_of
entries_fit text = omega (arith, length-each_after entry_in one_entry [] (logical_lines_of text).lines, length-logical_lines text)

-- Each item of a list has a byte.
texts_fit : (pieces : List (List ℕ)) → length (filter is_text (map trimmed pieces)) ≤ total pieces
texts_fit [] = omega arith
texts_fit (piece ∷ pieces) = at (trimmed piece) (length-trimmed piece) (texts_fit pieces) where
  at : (text : List ℕ) → length text ≤ length piece → length (filter is_text (map trimmed pieces)) ≤ total pieces → length (cond (is_text text) (text ∷ filter is_text (map trimmed pieces)) (filter is_text (map trimmed pieces))) ≤ length piece + total pieces
  at [] short h = omega (arith, h)
  at (b ∷ bs) short h = omega (arith, h, short)

pub length-item_texts : (list : List ℕ) → length (item_texts list) ≤ length list
length-item_texts list = omega (arith, texts_fit (pieces_outside 44 list), total-pieces_outside 44 list)

length-good_items : (list : List ℕ) → length (good_items list) ≤ length list
length-good_items list = omega (arith, length-filter_map item_of (item_texts list), texts_fit (pieces_outside 44 list), total-pieces_outside 44 list)

length-items : (lines : List Line) → length (flat_map items_in lines) ≤ texts_size lines
length-items [] = omega arith
length-items (l ∷ ls) = omega (arith, length-append (items_in l) (flat_map items_in ls), length-good_items l.text, length-items ls)

pub items_fit : (text : List ℕ) → length (include_file_of text).items ≤ length text
unfolding include_file_of
items_fit text = omega (arith, length-items (kept_lines text), texts_size-kept_lines text)

-- A mailbox file has at most one name in a line.
length-firsts : (texts : List (List ℕ)) → length (firsts bytes_eq texts) ≤ length texts
length-firsts [] = omega arith
length-firsts (text ∷ texts) = omega (arith, length-filter_most (λ (t : List ℕ). not (bytes_eq text t)) (firsts bytes_eq texts), length-firsts texts)

pub names_fit : (text : List ℕ) → length (mailbox_file_of text).names ≤ length text
unfolding mailbox_file_of
names_fit text = omega (arith, length-firsts (filter_map name_in (kept_lines text)), length-filter_map name_in (kept_lines text), length-kept_lines text)
