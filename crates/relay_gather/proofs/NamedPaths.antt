-- The paths of include files, as items name them: each begins with `/`, has bytes of items alone and no white space at its end.
use Rattle.std.proofs.Common.{◌≡◌, ℕ, ◌-◌, ◌<◌, ◌≤◌, Bool, true, false, not, cond, eqb, ◌&&◌, ◌==◌, drop, take, length, List, [], ◌∷◌, ◌++◌, Option, Some, None, Result, Ok, Err, refl, sym, ap, ◌∙◌, codes, arith, zero, suc, get_or, inl, inr}
use Rattle.std.specs.Prelude.{option_map, option_and_then, nat_lt, reverse}
use Rattle.std.specs.List.{list_all, list_any, last_or, cons_option, filter_map, flat_map, suffix_len, prefix_len, filter, before_first}
use Rattle.std.specs.Result.{result_ok}
use Rattle.std.specs.Str.{bytes_eq}
use Rattle.std.proofs.lemmas.Bool.{and_parts, and_from, cases_lt}
use Rattle.std.proofs.lemmas.Bool.Decides.{Decides-eqb}
use Rattle.std.proofs.lemmas.List.{length-reverse, get_or-reverse}
use Rattle.std.proofs.lemmas.List.Folds.{list_all-append}
use Rattle.std.proofs.lemmas.List.Sums.{suffix_len-take_no, suffix_len-le-length, prefix_len_stops}
use Rattle.relay_text.specs.Bytes.{is_white, each_after, first_of, begins_with, begins_with_word, ends_with, trimmed_end, firsts}
use Rattle.relay_text.specs.Quotes.{Mark, marks_from, marks, bytes_of, is_quote, without_escapes, places_outside}
use Rattle.relay_text.specs.Lines.{logical_lines_of, kept_lines}
use Rattle.relay_text.specs.declared.lines.Line.{Line}
use Rattle.relay_text.specs.declared.fault.TextFault.{TextFault}
use Rattle.relay_text.specs.Addresses.{Spelled, local_cut, plain_cut, quoted_cut, local_of, spelling_of, is_empty, is_quotable, is_local_too_long}
use Rattle.relay_aliasfile.specs.Items.{is_item_byte, item_texts, item_of, item_at, spelled_item, address_item, special_item, include_path, named_item, content_item, bracketed_at, bracketed_item, is_well_quoted, is_one_string}
use Rattle.relay_aliasfile.specs.AliasFiles.{Heading, heading_of, has_entry, entry_of, entry_in, alias_file_of, entry_items}
use Rattle.relay_aliasfile.specs.IncludeFiles.{items_in, include_file_of}
use Rattle.relay_aliasfile.specs.IncludeNames.{included_path, include_names_in}
use Rattle.relay_aliasfile.specs.declared.item.Item.{Item}
use Rattle.relay_aliasfile.specs.declared.item.Item.TheVariants.{Bare, Full, Include, Command, File}
use Rattle.relay_aliasfile.specs.declared.entry.Entry.{Entry}

abbrev pub is_bare : List ℕ → Bool
is_bare path = eqb (suffix_len is_white path) 0

abbrev pub is_path : List ℕ → Bool
is_path path = list_all is_item_byte path && (begins_with (codes "/") path && is_bare path)

abbrev pub is_path_item : Item → Bool
is_path_item (Include path) = is_path path
is_path_item (Bare name) = true
is_path_item (Full address) = true
is_path_item (Command text) = true
is_path_item (File path) = true

-- ---- tests that all elements pass
pass_take : {X : Type 0} (p : X → Bool) (n : ℕ) (xs : List X) → list_all p xs ≡ true → list_all p (take n xs) ≡ true
pass_take p zero xs h = refl
pass_take p (suc n) [] h = refl
pass_take p (suc n) (x ∷ xs) h = let v = and_parts (p x) (list_all p xs) h in and_from _ _ v.0 (pass_take p n xs v.1)

pass_drop : {X : Type 0} (p : X → Bool) (n : ℕ) (xs : List X) → list_all p xs ≡ true → list_all p (drop n xs) ≡ true
pass_drop p zero xs h = h
pass_drop p (suc n) [] h = refl
pass_drop p (suc n) (x ∷ xs) h = let v = and_parts (p x) (list_all p xs) h in pass_drop p n xs v.1

pass_filter : {X : Type 0} (p q : X → Bool) (xs : List X) → list_all p xs ≡ true → list_all p (filter q xs) ≡ true
pass_filter p q [] h = refl
pass_filter {X} p q (x ∷ xs) h = let v = and_parts (p x) (list_all p xs) h in at (q x) v.0 (pass_filter p q xs v.1) where
  at : (b : Bool) → p x ≡ true → list_all p (filter q xs) ≡ true → list_all p (cond b (x ∷ filter q xs) (filter q xs)) ≡ true
  at true e g = and_from _ _ e g
  at false e g = g

abbrev passes : Mark → Bool
passes m = is_item_byte m.byte

marks_pass : (escaped : Bool) (text : List ℕ) → list_all passes (marks_from escaped text) ≡ list_all is_item_byte text
marks_pass escaped [] = refl
marks_pass escaped (b ∷ bs) = ap (λ t. is_item_byte b && t) (marks_pass (not escaped && (b == 92)) bs)

bytes_pass : (ms : List Mark) → list_all is_item_byte (bytes_of ms) ≡ list_all passes ms
bytes_pass [] = refl
bytes_pass (m ∷ ms) = ap (λ t. is_item_byte m.byte && t) (bytes_pass ms)

unescaped_pass : (content : List ℕ) → list_all is_item_byte content ≡ true → list_all is_item_byte (without_escapes content) ≡ true
unescaped_pass content h = bytes_pass (filter _ (marks content)) ∙ pass_filter passes _ (marks content) (marks_pass false content ∙ h)

quoted_pass : (text : List ℕ) → list_all is_item_byte text ≡ true → list_all is_item_byte (local_of (quoted_cut text)) ≡ true
quoted_pass text h = unescaped_pass (bytes_of (before_first is_quote (marks text))) (bytes_pass (before_first is_quote (marks text)) ∙ pass_take passes _ (marks text) (marks_pass false text ∙ h))

local_pass : (text : List ℕ) → list_all is_item_byte text ≡ true → list_all is_item_byte (local_of (local_cut text)) ≡ true
local_pass [] h = refl
local_pass (b ∷ bs) h = let v = and_parts (is_item_byte b) (list_all is_item_byte bs) h in at (eqb b 34) (quoted_pass bs v.1) where
  at : (t : Bool) → list_all is_item_byte (local_of (quoted_cut bs)) ≡ true → list_all is_item_byte (local_of (cond t (quoted_cut bs) (plain_cut (b ∷ bs)))) ≡ true
  at true g = g
  at false g = pass_take is_item_byte _ (b ∷ bs) h

-- ---- the end of a trimmed text
pub trimmed_end-bare : (text : List ℕ) → suffix_len is_white (trimmed_end text) ≡ 0
trimmed_end-bare text =
    let k : ℕ = suffix_len is_white text in
    let most : k ≤ length text = suffix_len-le-length is_white text in
    elim (cases_lt k (length text)) [
      | inl less ↦
          (let long : length (reverse text) ≡ length text = length-reverse text in
          let inside : prefix_len is_white (reverse text) < length (reverse text) = omega (arith, less, long) in
          let stops : is_white (get_or (reverse text) k 0) ≡ false = prefix_len_stops is_white (reverse text) 0 inside in
          let place : length text - 1 - k ≡ length text - k - 1 = omega (arith, less) in
          suffix_len-take_no is_white text (length text - k) 0 (omega (arith, less)) (omega (arith, less))
          (ap (λ i. is_white (get_or text i 0)) (sym place) ∙ ap is_white (sym (get_or-reverse text k 0 less)) ∙ stops))
      | inr all ↦ (let none : length text - k ≡ 0 = omega (arith, all) in ap (λ n. suffix_len is_white (take n text)) none)
    ]

good_include_path : (text : List ℕ) → list_all is_item_byte text ≡ true → begins_with (codes "/") (include_path text) ≡ true → is_path (include_path text) ≡ true
good_include_path text h e =
    and_from _ _ (pass_take is_item_byte _ (drop 9 text) (pass_drop is_item_byte 9 text h))
    (and_from _ _ e ((Decides-eqb (suffix_len is_white (include_path text)) 0).1 (trimmed_end-bare (drop 9 text))))

-- ---- items
-- an item, if there is one, has a good path
abbrev is_good : Option Item → Bool
is_good None = true
is_good (Some item) = is_path_item item

good_either : (b : Bool) (x y : Option Item) → is_good x ≡ true → is_good y ≡ true → is_good (cond b x y) ≡ true
good_either true x y g h = g
good_either false x y g h = h

good_first : (x : Option Item) (more : List (Option Item)) → is_good x ≡ true → is_good (first_of more) ≡ true → is_good (first_of (x ∷ more)) ≡ true
good_first None more g h = h
good_first (Some item) more g h = g

good_special : (text : List ℕ) → list_all is_item_byte text ≡ true → is_good (special_item text) ≡ true
good_special text h =
    good_either (begins_with (codes "/") text) _ _ refl
    (good_either (begins_with (codes "|") text && nat_lt 1 _) _ _ refl (at (begins_with_word (codes ":include:") text) (begins_with (codes "/") (include_path text)) refl)) where
      at : (a b : Bool) → begins_with (codes "/") (include_path text) ≡ b → is_good (cond (a && b) (Some (Include (include_path text))) None) ≡ true
      at true true e = good_include_path text h e
      at true false e = refl
      at false b e = refl

good_item_at : (s : Spelled) (domain : Option (List ℕ)) → is_path_item (item_at s.local domain) ≡ true
good_item_at s None = refl
good_item_at s (Some domain) = refl

good_address : (text : List ℕ) → is_good (address_item text) ≡ true
good_address text = at (spelling_of text) where
  at : (r : Result Spelled TextFault) → is_good (option_map spelled_item (result_ok r)) ≡ true
  at (Ok s) = good_item_at s s.domain
  at (Err fault) = refl

good_content : (content : List ℕ) → list_all is_item_byte content ≡ true → is_good (content_item content) ≡ true
good_content content h =
    good_first (special_item content) (named_item content ∷ []) (good_special content h)
    (good_first (named_item content) [] (good_either (list_any (λ b. b == 64) content) _ _ (good_address content) (good_either (not (is_empty content) && list_all is_quotable content && not (is_local_too_long content)) _ _ refl refl)) refl)

good_bracketed : (text : List ℕ) → is_good (bracketed_item text) ≡ true
good_bracketed text = good_either (ends_with (codes ">") text) _ _ (at (last_or None (places_outside 60 text))) refl where
  at : (place : Option ℕ) → is_good (option_and_then (bracketed_at text) place) ≡ true
  at None = refl
  at (Some place) = good_address _

good_item_of : (text : List ℕ) → is_good (item_of text) ≡ true
unfolding item_of
good_item_of text = at (is_well_quoted text) refl where
  at : (b : Bool) → is_well_quoted text ≡ b
      → is_good (cond (not b) None (cond (is_one_string text) (content_item (local_of (local_cut text))) (first_of (special_item text ∷ bracketed_item text ∷ address_item text ∷ [])))) ≡ true
  at true e =
      let v = and_parts (list_all is_item_byte text) _ e in
      good_either (is_one_string text) _ _ (good_content (local_of (local_cut text)) (local_pass text v.0))
      (good_first (special_item text) _ (good_special text v.0) (good_first (bracketed_item text) _ (good_bracketed text) (good_first (address_item text) [] (good_address text) refl)))
  at false e = refl

good_cons : (o : Option Item) (items : List Item) → is_good o ≡ true → list_all is_path_item items ≡ true → list_all is_path_item (cons_option o items) ≡ true
good_cons None items g h = h
good_cons (Some item) items g h = and_from _ _ g h

good_found : (texts : List (List ℕ)) → list_all is_path_item (filter_map item_of texts) ≡ true
good_found [] = refl
good_found (text ∷ texts) = good_cons (item_of text) (filter_map item_of texts) (good_item_of text) (good_found texts)

abbrev is_path_entry : Entry → Bool
is_path_entry e = list_all is_path_item e.items

all_after : {X Y : Type 0} (test : Y → Bool) (f : List X → X → List Y) → ((before : List X) (x : X) → list_all test (f before x) ≡ true) → (before xs : List X) → list_all test (each_after f before xs) ≡ true
all_after test f h before [] = refl
all_after test f h before (x ∷ xs) = list_all-append test (f before x) (each_after f (before ++ x ∷ []) xs) ∙ and_from _ _ (h before x) (all_after test f h (before ++ x ∷ []) xs)

good_entry_in : (earlier : List Line) (l : Line) → list_all is_path_entry (entry_in earlier l) ≡ true
good_entry_in earlier l = at (heading_of l.text) where
  one : (b : Bool) (e : Entry) → is_path_entry e ≡ true → list_all is_path_entry (cond b [] (e ∷ [])) ≡ true
  one true e g = refl
  one false e g = and_from _ _ g refl

  at : (o : Option Heading) → list_all is_path_entry (entry_of earlier l o) ≡ true
  at None = refl
  at (Some h) = one (has_entry earlier h.name) _ (good_found (item_texts h.list))

good_entries : (text : List ℕ) → list_all is_path_entry (alias_file_of text).entries ≡ true
unfolding alias_file_of
good_entries text = all_after is_path_entry entry_in good_entry_in [] (logical_lines_of text).lines

entries_pass : (entries : List Entry) → list_all is_path_entry entries ≡ true → list_all is_path_item (entry_items entries) ≡ true
entries_pass [] h = refl
entries_pass (e ∷ es) h = let v = and_parts (is_path_entry e) (list_all is_path_entry es) h in list_all-append is_path_item e.items (entry_items es) ∙ and_from _ _ v.0 (entries_pass es v.1)

good_lines : (lines : List Line) → list_all is_path_item (flat_map items_in lines) ≡ true
good_lines [] = refl
good_lines (l ∷ ls) = list_all-append is_path_item (items_in l) (flat_map items_in ls) ∙ and_from _ _ (good_found (item_texts l.text)) (good_lines ls)

good_include_file : (text : List ℕ) → list_all is_path_item (include_file_of text).items ≡ true
unfolding include_file_of
good_include_file text = good_lines (kept_lines text)

paths_pass : (items : List Item) → list_all is_path_item items ≡ true → list_all is_path (filter_map included_path items) ≡ true
paths_pass [] h = refl
paths_pass (item ∷ items) h = let v = and_parts (is_path_item item) (list_all is_path_item items) h in at item v.0 (paths_pass items v.1) where
  at : (i : Item) → is_path_item i ≡ true → list_all is_path (filter_map included_path items) ≡ true → list_all is_path (cons_option (included_path i) (filter_map included_path items)) ≡ true
  at (Include path) g more = and_from _ _ g more
  at (Bare name) g more = more
  at (Full address) g more = more
  at (Command text) g more = more
  at (File path) g more = more

firsts_pass : (texts : List (List ℕ)) → list_all is_path texts ≡ true → list_all is_path (firsts bytes_eq texts) ≡ true
firsts_pass [] h = refl
firsts_pass (t ∷ ts) h = let v = and_parts (is_path t) (list_all is_path ts) h in and_from _ _ v.0 (pass_filter is_path _ (firsts bytes_eq ts) (firsts_pass ts v.1))

pub alias_paths : (text : List ℕ) → list_all is_path (include_names_in (entry_items (alias_file_of text).entries)) ≡ true
alias_paths text = firsts_pass (filter_map included_path (entry_items (alias_file_of text).entries)) (paths_pass (entry_items (alias_file_of text).entries) (entries_pass (alias_file_of text).entries (good_entries text)))

pub include_paths : (text : List ℕ) → list_all is_path (include_names_in (include_file_of text).items) ≡ true
include_paths text = firsts_pass (filter_map included_path (include_file_of text).items) (paths_pass (include_file_of text).items (good_include_file text))

pub all_firsts : (texts : List (List ℕ)) → list_all is_path texts ≡ true → list_all is_path (firsts bytes_eq texts) ≡ true
all_firsts = firsts_pass
