-- The logical lines of an alias file, and the entries on them.
use Rattle.std.proofs.Common.{◌≡◌, ℕ, ◌+◌, ◌<◌, ◌≤◌, Bool, true, false, not, cond, zero, suc, List, [], ◌∷◌, ◌++◌, length, get_or, map, slice_get, All, AllPairs, Contains, Option, Some, None, Ok, Err, refl, sym, ap, ◌∙◌, subst, inl, inr, arith}
use Rattle.std.specs.List.{filter, flat_map, enumerate_from}
use Rattle.std.specs.Ordering.{nat_cmp, ordering_index}
use Rattle.std.specs.Option.{option_map}
use Rattle.std.specs.List.Sorted.{IsBinarySearchResult, IsSearchInRange, IsNonDecreasingBy}
use Rattle.std.proofs.lemmas.Bool.{cases_lt}
use Rattle.std.proofs.lemmas.Bool.Decides.{nat_tests}
use Rattle.std.proofs.lemmas.Cmp.{ranked}
use Rattle.std.proofs.lemmas.List.Elements.{All-cons, Contains-append_cases}
use Rattle.std.proofs.lemmas.List.Kept.{AllPairs-cons}
use Rattle.std.proofs.lemmas.List.Sorted.{IsNonDecreasingBy-from_default}
use Rattle.std.proofs.lemmas.Option.{none-some, same_Some, slice_get-get_or, get_or_from_slice_get}
use Rattle.relay_text.specs.Bytes.{each_after}
use Rattle.relay_text.specs.Lines.{Cut, cut_before, begins_logical_line, is_ignored, joined, kept_lines, logical_lines_of, numbered_lines, physical_lines}
use Rattle.relay_text.specs.declared.lines.Line.{Line}
use Rattle.relay_aliasfile.specs.Items.{good_items}
use Rattle.relay_aliasfile.specs.AliasFiles.{Heading, heading_of, has_entry, entry_of, entry_in, alias_file_of}
use Rattle.relay_aliasfile.specs.Headings.{heading_list}
use Rattle.relay_aliasfile.specs.ItemPlaces.{PlacedItem, places_in, IsEntryLine, IsRowOf}
use Rattle.relay_aliasfile.specs.declared.entry.Entry.{Entry}

in_head : {X : Type 0} (y : X) (ys : List X) (x : X) → y ≡ x → Contains (y ∷ ys) x
in_head y ys x e = (0, omega arith, e)

in_tail : {X : Type 0} (y : X) (ys : List X) (x : X) → Contains ys x → Contains (y ∷ ys) x
in_tail y ys x c = let below : c.0 < length ys = c.1 in (suc c.0, omega arith, c.2)

only : {X : Type 0} (x y : X) → Contains (x ∷ []) y → x ≡ y
only x y c = at c.0 c.1 c.2 where
  at : (k : ℕ) → k < 1 → get_or (x ∷ []) k y ≡ y → x ≡ y
  at zero b e = e
  at (suc k) b e = absurd (omega arith)

-- a logical line that gives an entry
pub record GivesEntry (l : Line) (e : Entry) : Type 0 where
  pub number : l.number ≡ e.line
  pub heading : Heading
  pub headed : heading_of l.text ≡ Some heading
  pub name : heading.name ≡ e.name
  pub items : e.items ≡ good_items heading.list

abbrev new_of : Line → Heading → Entry
new_of l heading = record { name = heading.name; line = l.number; items = good_items heading.list }

kept : (l : Line) (heading : Heading) (e : Entry) → heading_of l.text ≡ Some heading → (t : Bool) → Contains (cond t [] (new_of l heading ∷ [])) e → GivesEntry l e
kept l heading e h true c = absurd (omega (arith, c.1))
kept l heading e h false c =
    let is : new_of l heading ≡ e = only (new_of l heading) e c in
    record { number = ap (λ (x : Entry). x.line) is; heading = heading; headed = h; name = ap (λ (x : Entry). x.name) is; items = sym (ap (λ (x : Entry). x.items) is) }

of_line : (earlier : List Line) (l : Line) (e : Entry) → Contains (entry_in earlier l) e → GivesEntry l e
of_line earlier l e c = at (heading_of l.text) refl c where
  at : (o : Option Heading) → heading_of l.text ≡ o → Contains (entry_of earlier l o) e → GivesEntry l e
  at None h c = absurd (omega (arith, c.1))
  at (Some heading) h c = kept l heading e h (has_entry earlier heading.name) c

from_lines : (earlier ls : List Line) (e : Entry) → Contains (each_after entry_in earlier ls) e → (l : Line) × Contains ls l × GivesEntry l e
from_lines earlier [] e c = absurd (omega (arith, c.1))
from_lines earlier (l ∷ ls) e c =
    elim (Contains-append_cases (entry_in earlier l) (each_after entry_in (earlier ++ l ∷ []) ls) e c) [
      | inl here ↦ (l, in_head l ls l refl, of_line earlier l e here)
      | inr later ↦ let r = from_lines (earlier ++ l ∷ []) ls e later in (r.0, in_tail l ls r.0 r.1, r.2)
    ]

pub entry_has_line : (text : List ℕ) (e : Entry) → Contains (alias_file_of text).entries e → (l : Line) × IsEntryLine (logical_lines_of text).lines e l
unfolding alias_file_of
entry_has_line text e c =
    let r = from_lines [] (logical_lines_of text).lines e c in
    (r.0, record { there = r.1; number = r.2.number; heading = r.2.heading; headed = r.2.headed; name = r.2.name; items = r.2.items })

-- lines whose numbers rise from above a number on
abbrev Rising : ℕ → List Line → Type 0
Rising n [] = Unit {0}
Rising n (l ∷ ls) = (n < l.number) × Rising l.number ls

rising_from : (m n : ℕ) (ls : List Line) → m ≤ n → Rising n ls → Rising m ls
rising_from m n [] h r = tt
rising_from m n (l ∷ ls) h r = let above : n < l.number = r.0 in (omega arith, r.1)

rising-numbered : (n : ℕ) (texts : List (List ℕ)) → Rising n (map (λ (p : ℕ × List ℕ). record { number = p.0; text = p.1 }) (enumerate_from (n + 1) texts))
rising-numbered n [] = tt
rising-numbered n (text ∷ texts) = (omega arith, rising-numbered (n + 1) texts)

rising-filter : (keeps : Line → Bool) (n : ℕ) (ls : List Line) → Rising n ls → Rising n (filter keeps ls)
rising-filter keeps n [] r = tt
rising-filter keeps n (l ∷ ls) r =
    at (keeps l) (rising-filter keeps l.number ls r.1) where
      at : (t : Bool) → Rising l.number (filter keeps ls) → Rising n (cond t (l ∷ filter keeps ls) (filter keeps ls))
      at true rest = (r.0, rest)
      at false rest = let above : n < l.number = r.0 in rising_from n l.number (filter keeps ls) (omega arith) rest

abbrev cut_with : Line → Cut Line → Cut Line
cut_with l rest = record { before = []; pieces = (l ∷ rest.before) ∷ rest.pieces }

abbrev cut_without : Line → Cut Line → Cut Line
cut_without l rest = record { before = l ∷ rest.before; pieces = rest.pieces }

rising-cut : (starts : Line → Bool) (n : ℕ) (ls : List Line) → Rising n ls → Rising n (flat_map joined (cut_before starts ls).pieces)
rising-cut starts n [] r = tt
rising-cut starts n (l ∷ ls) r =
    at (starts l) (rising-cut starts l.number ls r.1) where
      at : (t : Bool) → Rising l.number (flat_map joined (cut_before starts ls).pieces) → Rising n (flat_map joined (cond t (cut_with l (cut_before starts ls)) (cut_without l (cut_before starts ls))).pieces)
      at true later = (r.0, later)
      at false later = let above : n < l.number = r.0 in rising_from n l.number (flat_map joined (cut_before starts ls).pieces) (omega arith) later

above_all : (n : ℕ) (ls : List Line) → Rising n ls → All (λ (l : Line). n < l.number) ls
above_all n [] r = λ k d b. absurd (omega (arith, b))
above_all n (l ∷ ls) r =
    let above : n < l.number = r.0 in
    All-cons (λ (l : Line). n < l.number) l ls r.0 (above_all n ls (rising_from n l.number ls (omega arith) r.1))

pairs_rise : (n : ℕ) (ls : List Line) → Rising n ls → AllPairs (λ (a b : Line). a.number < b.number) ls
pairs_rise n [] r = λ i j d before b. absurd (omega (arith, b))
pairs_rise n (l ∷ ls) r = AllPairs-cons (λ (a b : Line). a.number < b.number) l ls (above_all l.number ls r.1) (pairs_rise l.number ls r.1)

pub lines_rise : (text : List ℕ) → AllPairs (λ (a b : Line). a.number < b.number) (logical_lines_of text).lines
unfolding logical_lines_of
lines_rise text = pairs_rise 0 _ (rising-cut begins_logical_line 0 (kept_lines text) (rising-filter (λ (l : Line). not (is_ignored l.text)) 0 (numbered_lines text) (rising-numbered 0 (physical_lines text))))

abbrev no_line : Line
no_line = record { number = 0; text = [] }

same_default : (ls : List Line) (k : ℕ) (c d : Line) → k < length ls → get_or ls k c ≡ get_or ls k d
same_default ls k c d h = same_Some (get_or ls k c) (get_or ls k d) (sym (slice_get-get_or ls k c h) ∙ slice_get-get_or ls k d h)

index_rises : (x y z : ℕ) → x ≤ y → ordering_index (nat_cmp x z) ≤ ordering_index (nat_cmp y z)
index_rises x y z h = grind (arith, nat_tests)

-- What a binary search finds for an entry that has a line.
module _ (ls : List Line) (ascending : AllPairs (λ (a b : Line). a.number < b.number) ls) (e : Entry) (l : Line) (is : IsEntryLine ls e l) where
  not_falls : (i j : ℕ) → i ≤ j → j < length ls → (get_or ls i no_line).number ≤ (get_or ls j no_line).number
  not_falls i j le short =
      elim (cases_lt i j) [
        | inl less ↦ let h : (get_or ls i no_line).number < (get_or ls j no_line).number = ascending i j no_line less short in omega (arith, h)
        | inr no_less ↦ let same : i ≡ j = omega arith in subst (λ (k : ℕ). (get_or ls i no_line).number ≤ (get_or ls k no_line).number) same (omega arith)
      ]

  comparisons_rise : IsNonDecreasingBy (λ (m : Line). ordering_index (nat_cmp m.number e.line)) ls
  comparisons_rise = IsNonDecreasingBy-from_default (λ (m : Line). ordering_index (nat_cmp m.number e.line)) ls no_line (λ i j le short. index_rises (get_or ls i no_line).number (get_or ls j no_line).number e.line (not_falls i j le short))

  number_there : (get_or ls is.there.0 no_line).number ≡ e.line
  number_there = ap (λ (m : Line). m.number) (same_default ls is.there.0 no_line l is.there.1 ∙ is.there.2) ∙ is.number

  pub found_line : (place : ℕ) → IsSearchInRange (Ok place) (length ls) → IsBinarySearchResult (λ (m : Line). nat_cmp m.number e.line) ls (Ok place) → slice_get ls place ≡ Some l
  found_line place inside equal =
      let k : ℕ = is.there.0 in
      let short : k < length ls = is.there.1 in
      let here : (get_or ls place no_line).number ≡ e.line = ranked (get_or ls place no_line).number e.line _ (sym (equal no_line)) in
      let there : (get_or ls k no_line).number ≡ e.line = number_there in
      elim (cases_lt place k) [
        | inl less ↦ let h : (get_or ls place no_line).number < (get_or ls k no_line).number = ascending place k no_line less short in absurd (omega (arith, h, here, there))
        | inr no_less ↦
            elim (cases_lt k place) [
              | inl less ↦ let h : (get_or ls k no_line).number < (get_or ls place no_line).number = ascending k place no_line less inside in absurd (omega (arith, h, here, there))
              | inr no_more ↦ let same : k ≡ place = omega arith in subst (λ (p : ℕ). slice_get ls p ≡ Some l) same (slice_get-get_or ls k l short ∙ ap Some is.there.2)
            ]
      ]

  pub not_without_line : (gap : ℕ) → IsBinarySearchResult (λ (m : Line). nat_cmp m.number e.line) ls (Err gap) → ⊥
  not_without_line gap parted =
      let k : ℕ = is.there.0 in
      let short : k < length ls = is.there.1 in
      let there : (get_or ls k no_line).number ≡ e.line = number_there in
      let parts = parted comparisons_rise in
      elim (cases_lt k gap) [
        | inl less ↦ let h : (get_or ls k no_line).number < e.line = ranked (get_or ls k no_line).number e.line _ (sym (parts.0 k no_line (omega arith) less)) in omega (arith, h, there)
        | inr no_less ↦ let h : e.line < (get_or ls k no_line).number = ranked (get_or ls k no_line).number e.line _ (sym (parts.1 k no_line no_less short)) in omega (arith, h, there)
      ]

  -- the text at the place that was found
  pub text_there : (place : ℕ) (line : Line) (text : List ℕ) → slice_get ls place ≡ Some l → text ≡ (get_or ls place line).text → text ≡ l.text
  text_there place line text found t = t ∙ ap (λ (m : Line). m.text) (get_or_from_slice_get ls place l line found)

  -- the list that is read from the line is the entry's
  pub row_of : (text : List ℕ) (list : List ℕ) (row : List PlacedItem) → text ≡ l.text → Some list ≡ option_map heading_list (heading_of text) → row ≡ places_in e.line list → IsRowOf ls e row
  row_of text list row t h r =
      let found : Some list ≡ Some is.heading.list = h ∙ ap (λ (x : List ℕ). option_map heading_list (heading_of x)) t ∙ ap (option_map heading_list) is.headed in
      record { line = l; on = is; row_is = r ∙ ap (places_in e.line) (same_Some list is.heading.list found) }

  pub has_list : (text : List ℕ) → text ≡ l.text → None ≡ option_map heading_list (heading_of text) → ⊥
  has_list text t h =
      let found : None ≡ Some is.heading.list = h ∙ ap (λ (x : List ℕ). option_map heading_list (heading_of x)) t ∙ ap (option_map heading_list) is.headed in
      none-some is.heading.list found
