-- What the parsers of alias and include files give: each name and each bare item is a local part.
use Rattle.std.proofs.Common.{◌≡◌, ℕ, Bool, true, false, not, cond, ◌&&◌, ◌||◌, ◌==◌, ◌+◌, drop, List, [], ◌∷◌, ◌++◌, Option, Some, None, Result, Ok, Err, refl, sym, ap, ◌∙◌, subst, codes, take}
use Rattle.std.specs.Bool.{IsTrue}
use Rattle.std.specs.Prelude.{option_map, option_and_then, filter_map, flat_map, slice_get, nat_lt}
use Rattle.std.specs.List.{list_all, list_any, last_or, cons_option}
use Rattle.std.specs.Result.{result_ok}
use Rattle.std.proofs.lemmas.Bool.{and_parts, and_from, not-true, not-false, or_parts}
use Rattle.std.proofs.lemmas.List.Folds.{list_all-append}
use Rattle.relay_text.specs.Bytes.{folded, each_after, first_of, begins_with, ends_with, begins_with_word, trimmed_end}
use Rattle.relay_text.specs.Quotes.{places_outside}
use Rattle.relay_text.specs.Lines.{logical_lines_of, kept_lines}
use Rattle.relay_text.specs.declared.lines.Line.{Line}
use Rattle.relay_text.specs.declared.fault.TextFault.{TextFault}
use Rattle.relay_text.specs.declared.fault.TextFault.TheVariants.{BadDomain, TooLong}
use Rattle.relay_text.specs.Addresses.{Check, checked, Spelled, local_cut, local_of, is_local_byte, is_empty, is_quotable, is_local_too_long, is_domain_too_long, local_checks, is_bad_domain, spelled_of, name_of, spelling_of}
use Rattle.relay_text.proofs.Limits.{local_nonempty, local_quotable}
use Rattle.relay_aliasfile.specs.Items.{item_texts, item_of, item_at, spelled_item, address_item, special_item, include_path, quoted_name, named_item, content_item, bracketed_at, bracketed_item, is_well_quoted, is_one_string, good_items}
use Rattle.relay_aliasfile.specs.AliasFiles.{Heading, heading_with, heading_at, heading_of, has_entry, entry_of, entry_in, alias_file_of}
use Rattle.relay_aliasfile.specs.IncludeFiles.{items_in, include_file_of}
use Rattle.relay_aliasfile.specs.MailboxFiles.{folded_name_of}
use Rattle.relay_aliasfile.specs.declared.item.Item.{Item}
use Rattle.relay_aliasfile.specs.declared.item.Item.TheVariants.{Bare}
use Rattle.relay_aliasfile.specs.declared.entry.Entry.{Entry}
use Rattle.relay_tables.specs.Parts.{is_local_part, is_good_item, is_good_entry}
use Rattle.relay_tables.proofs.LocalParts.{is_local_part-folded}

-- where checks find nothing, each of them is false, and the value is the one that was checked
abbrev is_passed : Check → Bool
is_passed c = not c.0

checked_ok : {A : Type 0} (checks : List Check) (a b : A) → checked checks a ≡ Ok b → (list_all is_passed checks ≡ true) × (b ≡ a)
checked_ok [] a b h = let same : a ≡ b = cc in (refl, sym same)
checked_ok {A} (c ∷ cs) a b h = at c.0 (checked_ok cs a b) h where
  at : (t : Bool) → (checked cs a ≡ Ok b → (list_all is_passed cs ≡ true) × (b ≡ a)) → cond t (Err c.1) (checked cs a) ≡ Ok b → ((not t && list_all is_passed cs) ≡ true) × (b ≡ a)
  at true more e = cc
  at false more e = more e

-- the checks of a local part, and that all five of a text were passed
abbrev some_bytes : List ℕ → Bool
some_bytes text = not (is_empty (local_cut text).raw)

abbrev good_bytes : List ℕ → Bool
good_bytes text = not (not (list_all (is_local_byte (local_cut text)) (local_cut text).raw))

abbrev ends_well : List ℕ → Bool
ends_well text = is_empty (local_cut text).rest || begins_with (codes "@") (local_cut text).rest

abbrev good_quotes : List ℕ → Bool
good_quotes text = not (not (local_cut text).closed || not (ends_well text))

five : (a b c d e : Bool) → (a && (b && (c && (d && (e && true))))) ≡ true → (a ≡ true) × (b ≡ true) × (c ≡ true) × (e ≡ true)
five a b c d e h =
    let v = and_parts a (b && (c && (d && (e && true)))) h in
    let w = and_parts b (c && (d && (e && true))) v.1 in
    let x = and_parts c (d && (e && true)) w.1 in
    let y = and_parts d (e && true) x.1 in
    let z = and_parts e true y.1 in
    (v.0, w.0, x.0, z.0)

-- the local part of a cut whose checks find nothing
good_cut : (text : List ℕ) → some_bytes text ≡ true → good_bytes text ≡ true → good_quotes text ≡ true
    → is_local_too_long (local_of (local_cut text)) ≡ false → IsTrue (is_local_part (local_of (local_cut text)))
unfolding is_local_part
good_cut text some bytes quotes short =
    let closed : (local_cut text).closed ≡ true = not-false _ (or_parts (not (local_cut text).closed) (not (ends_well text)) (not-true _ quotes)).0 in
    and_from _ _
    (and_from _ _ (ap not (local_nonempty text closed (not-true _ some))) (local_quotable (local_cut text) (not-false _ (not-true _ bytes))))
    (ap not short)

abbrev name_checks : List ℕ → List Check
name_checks text = local_checks (local_cut text) ++ (not (is_empty (local_cut text).rest), BadDomain) ∷ (is_local_too_long (local_of (local_cut text)), TooLong) ∷ []

good_name : (text local : List ℕ) → name_of text ≡ Ok local → IsTrue (is_local_part local)
unfolding name_of
good_name text local h =
    let c = checked_ok (name_checks text) (local_of (local_cut text)) local h in
    let p = five (some_bytes text) (good_bytes text) (good_quotes text) (not (not (is_empty (local_cut text).rest))) (not (is_local_too_long (local_of (local_cut text)))) c.0 in
    subst (λ (l : List ℕ). IsTrue (is_local_part l)) (sym c.1) (good_cut text p.0 p.1 p.2 (not-true _ p.3))

abbrev is_too_long : Spelled → Bool
is_too_long s = is_local_too_long s.local || is_domain_too_long s.local s.domain

abbrev spelling_checks : List ℕ → List Check
spelling_checks text = local_checks (local_cut text) ++ (is_bad_domain (spelled_of text).domain, BadDomain) ∷ (is_too_long (spelled_of text), TooLong) ∷ []

good_spelling : (text : List ℕ) (s : Spelled) → spelling_of text ≡ Ok s → IsTrue (is_local_part s.local)
unfolding spelling_of
good_spelling text s h =
    let c = checked_ok (spelling_checks text) (spelled_of text) s h in
    let p = five (some_bytes text) (good_bytes text) (good_quotes text) (not (is_bad_domain (spelled_of text).domain)) (not (is_too_long (spelled_of text))) c.0 in
    let short = (or_parts (is_local_too_long (spelled_of text).local) (is_domain_too_long (spelled_of text).local (spelled_of text).domain) (not-true _ p.3)).0 in
    subst (λ (x : Spelled). IsTrue (is_local_part x.local)) (sym c.1) (good_cut text p.0 p.1 p.2 short)

-- an item, if there is one, is good
abbrev is_good : Option Item → Bool
is_good None = true
is_good (Some item) = is_good_item item

good_either : (b : Bool) (x y : Option Item) → is_good x ≡ true → is_good y ≡ true → is_good (cond b x y) ≡ true
good_either true x y g h = g
good_either false x y g h = h

good_first : (x : Option Item) (more : List (Option Item)) → is_good x ≡ true → is_good (first_of more) ≡ true → is_good (first_of (x ∷ more)) ≡ true
good_first None more g h = h
good_first (Some item) more g h = g

good_special : (text : List ℕ) → is_good (special_item text) ≡ true
good_special text =
    good_either (begins_with (codes "/") text) _ _ refl
    (good_either (begins_with (codes "|") text && nat_lt 1 _) _ _ refl
    (good_either (begins_with_word (codes ":include:") text && begins_with (codes "/") (include_path text)) _ _ refl refl))

good_item_at : (s : Spelled) → IsTrue (is_local_part s.local) → (domain : Option (List ℕ)) → is_good_item (item_at s.local domain) ≡ true
good_item_at s h None = h
good_item_at s h (Some domain) = refl

good_address : (text : List ℕ) → is_good (address_item text) ≡ true
good_address text = at (spelling_of text) refl where
  at : (r : Result Spelled TextFault) → spelling_of text ≡ r → is_good (option_map spelled_item (result_ok r)) ≡ true
  at (Ok s) e = good_item_at s (good_spelling text s e) s.domain
  at (Err fault) e = refl

good_quoted : (content : List ℕ) → is_good (quoted_name content) ≡ true
unfolding is_local_part
good_quoted content = at (not (is_empty content) && list_all is_quotable content && not (is_local_too_long content)) refl where
  at : (b : Bool) → (not (is_empty content) && list_all is_quotable content && not (is_local_too_long content)) ≡ b → is_good (cond b (Some (Bare content)) None) ≡ true
  at true e = e
  at false e = refl

good_content : (content : List ℕ) → is_good (content_item content) ≡ true
good_content content =
    good_first (special_item content) (named_item content ∷ []) (good_special content)
    (good_first (named_item content) [] (good_either (list_any (λ b. b == 64) content) _ _ (good_address content) (good_quoted content)) refl)

good_bracketed : (text : List ℕ) → is_good (bracketed_item text) ≡ true
good_bracketed text = good_either (ends_with (codes ">") text) _ _ (at (last_or None (places_outside 60 text))) refl where
  at : (place : Option ℕ) → is_good (option_and_then (bracketed_at text) place) ≡ true
  at None = refl
  at (Some place) = good_address _

good_item_of : (text : List ℕ) → is_good (item_of text) ≡ true
unfolding item_of
good_item_of text =
    good_either (not (is_well_quoted text)) _ _ refl
    (good_either (is_one_string text) _ _ (good_content (local_of (local_cut text)))
    (good_first (special_item text) _ (good_special text) (good_first (bracketed_item text) _ (good_bracketed text) (good_first (address_item text) [] (good_address text) refl))))

good_cons : (o : Option Item) (items : List Item) → is_good o ≡ true → list_all is_good_item items ≡ true → list_all is_good_item (cons_option o items) ≡ true
good_cons None items g h = h
good_cons (Some item) items g h = and_from _ _ g h

good_found : (texts : List (List ℕ)) → list_all is_good_item (filter_map item_of texts) ≡ true
good_found [] = refl
good_found (text ∷ texts) = good_cons (item_of text) (filter_map item_of texts) (good_item_of text) (good_found texts)

good_list : (list : List ℕ) → list_all is_good_item (good_items list) ≡ true
good_list list = good_found (item_texts list)

all_after : {X Y : Type 0} (test : Y → Bool) (f : List X → X → List Y) → ((before : List X) (x : X) → list_all test (f before x) ≡ true) → (before xs : List X) → list_all test (each_after f before xs) ≡ true
all_after test f h before [] = refl
all_after test f h before (x ∷ xs) = list_all-append test (f before x) (each_after f (before ++ x ∷ []) xs) ∙ and_from _ _ (h before x) (all_after test f h (before ++ x ∷ []) xs)

-- a heading's name is one
good_folded_name : (text name : List ℕ) → folded_name_of text ≡ Some name → IsTrue (is_local_part name)
good_folded_name text name e = at (name_of text) refl e where
  at : (r : Result (List ℕ) TextFault) → name_of text ≡ r → option_map folded (result_ok r) ≡ Some name → IsTrue (is_local_part name)
  at (Ok local) is f = let same : folded local ≡ name = cc in subst (λ (l : List ℕ). IsTrue (is_local_part l)) same (is_local_part-folded local (good_name text local is))
  at (Err fault) is f = cc

good_heading_at : (text : List ℕ) (colon : ℕ) (h : Heading) → heading_at text colon ≡ Some h → IsTrue (is_local_part h.name)
good_heading_at text colon h e = at (folded_name_of (trimmed_end (take colon text))) refl e where
  at : (o : Option (List ℕ)) → folded_name_of (trimmed_end (take colon text)) ≡ o → option_map (heading_with (drop (colon + 1) text)) o ≡ Some h → IsTrue (is_local_part h.name)
  at (Some name) is f = let same : name ≡ h.name = cc in subst (λ (l : List ℕ). IsTrue (is_local_part l)) same (good_folded_name (trimmed_end (take colon text)) name is)
  at None is f = cc

good_heading : (text : List ℕ) (h : Heading) → heading_of text ≡ Some h → IsTrue (is_local_part h.name)
unfolding heading_of
good_heading text h e = at (slice_get (places_outside 58 text) 0) e where
  at : (o : Option ℕ) → option_and_then (heading_at text) o ≡ Some h → IsTrue (is_local_part h.name)
  at (Some colon) f = good_heading_at text colon h f
  at None f = cc

good_entry_in : (earlier : List Line) (l : Line) → list_all is_good_entry (entry_in earlier l) ≡ true
good_entry_in earlier l = at (heading_of l.text) refl where
  one : (b : Bool) (e : Entry) → is_good_entry e ≡ true → list_all is_good_entry (cond b [] (e ∷ [])) ≡ true
  one true e g = refl
  one false e g = and_from _ _ g refl

  at : (o : Option Heading) → heading_of l.text ≡ o → list_all is_good_entry (entry_of earlier l o) ≡ true
  at None is = refl
  at (Some h) is = one (has_entry earlier h.name) _ (and_from _ _ (good_heading l.text h is) (good_list h.list))

pub good_alias_file : (text : List ℕ) → IsTrue (list_all is_good_entry (alias_file_of text).entries)
unfolding alias_file_of
good_alias_file text = all_after is_good_entry entry_in good_entry_in [] (logical_lines_of text).lines

good_lines : (lines : List Line) → list_all is_good_item (flat_map items_in lines) ≡ true
good_lines [] = refl
good_lines (l ∷ ls) = list_all-append is_good_item (items_in l) (flat_map items_in ls) ∙ and_from _ _ (good_list l.text) (good_lines ls)

pub good_include_file : (text : List ℕ) → IsTrue (list_all is_good_item (include_file_of text).items)
unfolding include_file_of
good_include_file text = good_lines (kept_lines text)
