-- What the logical lines of an alias file make together.
use Rattle.std.proofs.Common.{◌≡◌, ℕ, ◌+◌, Bool, true, false, List, [], ◌∷◌, ◌++◌, drop, map, refl, sym, ap, ◌∙◌, Some, None, Option, arith}
use Rattle.std.specs.Prelude.{filter_map, option_map}
use Rattle.std.specs.List.{cons_option, list_any}
use Rattle.std.proofs.lemmas.Bool.{true≢false}
use Rattle.std.proofs.lemmas.List.{append-nil}
use Rattle.std.proofs.lemmas.List.Elements.{filter_map-append}
use mathlib.Core.Bool.{beq}
use Rattle.relay_text.specs.Bytes.{each_after}
use Rattle.relay_text.specs.Lines.{logical_lines_of}
use Rattle.relay_text.specs.declared.lines.Line.{Line}
use Rattle.relay_aliasfile.specs.AliasFiles.{Heading, heading_of, heading_name, name_in, has_entry, entry_in, entry_of, faults_in, faults_of, alias_file_of}
use Rattle.relay_aliasfile.specs.AliasTables.{new_entries, new_faults, next_repeat, repeats_behind, added_by, file_in, file_behind}
use Rattle.relay_aliasfile.specs.Repeats.{entry_name, is_among, repeats_in}
use Rattle.relay_aliasfile.specs.declared.aliases.AliasFile.{AliasFile}
use Rattle.relay_halves.proofs.HalvedLines.{moved_nowhere}

abbrev names_of : List Line → List (List ℕ)
names_of lines = filter_map name_in lines

-- ---- where the list says of each name whether it stands before
module _ {Y : Type 0} (new : Bool → ℕ → Option Heading → List Y) (made : List Line → Line → Option Heading → List Y)
    (none : (earlier : List Line) (l : Line) (b : Bool) → new b l.number None ≡ made earlier l None)
    (some : (earlier : List Line) (l : Line) (h : Heading) → new (has_entry earlier h.name) l.number (Some h) ≡ made earlier l (Some h)) where
  abbrev make : List Line → Line → List Y
  make earlier l = made earlier l (heading_of l.text)

  made_by_repeats : (earlier lines : List Line) → added_by new (each_after is_among (names_of earlier) (names_of lines)) lines ≡ each_after make earlier lines
  made_by_repeats earlier [] = refl
  made_by_repeats earlier (l ∷ ls) = at (heading_of l.text) (filter_map-append name_in earlier (l ∷ [])) (made_by_repeats (earlier ++ l ∷ []) ls) where
    later : List (List ℕ) → List Y
    later before = added_by new (each_after is_among before (names_of ls)) ls

    said : Option Heading → List Bool
    said o = each_after is_among (names_of earlier) (cons_option (option_map heading_name o) (names_of ls))

    at : (o : Option Heading) → names_of (earlier ++ l ∷ []) ≡ names_of earlier ++ cons_option (option_map heading_name o) [] → later (names_of (earlier ++ l ∷ [])) ≡ each_after make (earlier ++ l ∷ []) ls
        → new (next_repeat (said o)) l.number o ++ added_by new (repeats_behind o (said o)) ls ≡ made earlier l o ++ each_after make (earlier ++ l ∷ []) ls
    at None names more =
        ap (λ ys. ys ++ later (names_of earlier)) (none earlier l (next_repeat (said None)))
        ∙ ap (λ ys. made earlier l None ++ ys) (ap later (sym (append-nil (names_of earlier)) ∙ sym names) ∙ more)
    at (Some h) names more =
        ap (λ ys. ys ++ later (names_of earlier ++ h.name ∷ [])) (some earlier l h)
        ∙ ap (λ ys. made earlier l (Some h) ++ ys) (ap later (sym names) ∙ more)

-- the file of a text that no line stands before
abbrev file_by : List Bool → List ℕ → AliasFile
file_by repeats text = file_in repeats (logical_lines_of text)

file_by_repeats : (text : List ℕ) → file_by (repeats_in (names_of (logical_lines_of text).lines)) text ≡ alias_file_of text
unfolding alias_file_of
file_by_repeats text =
    let lines = (logical_lines_of text).lines in
    let e : added_by new_entries (repeats_in (names_of lines)) lines ≡ each_after entry_in [] lines = made_by_repeats new_entries entry_of (λ earlier l b. refl) (λ earlier l h. refl) [] lines in
    let f : added_by new_faults (repeats_in (names_of lines)) lines ≡ each_after faults_in [] lines = made_by_repeats new_faults faults_of (λ earlier l b. refl) (λ earlier l h. refl) [] lines in
    cc

-- ---- where the list says that no name is a repeat
-- each heading gives an entry
names_without : (lines : List Line) → map entry_name (added_by new_entries [] lines) ≡ names_of lines
names_without [] = refl
names_without (l ∷ ls) = at (heading_of l.text) (names_without ls) where
  at : (o : Option Heading) → map entry_name (added_by new_entries [] ls) ≡ names_of ls
      → map entry_name (new_entries false l.number o ++ added_by new_entries (repeats_behind o []) ls) ≡ cons_option (option_map heading_name o) (names_of ls)
  at None more = more
  at (Some h) more = ap (λ ns. h.name ∷ ns) more

abbrev pub has_repeat : List Bool → Bool
has_repeat repeats = list_any (λ b. beq b true) repeats

none_next : (repeats : List Bool) → has_repeat repeats ≡ false → next_repeat repeats ≡ false
none_next [] e = refl
none_next (true ∷ bs) e = e
none_next (false ∷ bs) e = refl

none_behind : (repeats : List Bool) → has_repeat repeats ≡ false → has_repeat (drop 1 repeats) ≡ false
none_behind [] e = refl
none_behind (true ∷ bs) e = absurd (true≢false e)
none_behind (false ∷ bs) e = e

same_without : {Y : Type 0} (new : Bool → ℕ → Option Heading → List Y) (lines : List Line) (repeats : List Bool) → has_repeat repeats ≡ false → added_by new [] lines ≡ added_by new repeats lines
same_without new [] repeats e = refl
same_without {Y} new (l ∷ ls) repeats e = at (heading_of l.text) (same_without new ls repeats e) (same_without new ls (drop 1 repeats) (none_behind repeats e)) where
  at : (o : Option Heading) → added_by new [] ls ≡ added_by new repeats ls → added_by new [] ls ≡ added_by new (drop 1 repeats) ls
      → new false l.number o ++ added_by new (repeats_behind o []) ls ≡ new (next_repeat repeats) l.number o ++ added_by new (repeats_behind o repeats) ls
  at None same behind = ap (λ b. new b l.number None ++ added_by new [] ls) (sym (none_next repeats e)) ∙ ap (λ ys. new (next_repeat repeats) l.number None ++ ys) same
  at (Some h) same behind = ap (λ b. new b l.number (Some h) ++ added_by new [] ls) (sym (none_next repeats e)) ∙ ap (λ ys. new (next_repeat repeats) l.number (Some h) ++ ys) behind

-- ---- where no line stands before the text
numbers_at_start : (numbers : List ℕ) → map (λ n. 0 + n) numbers ≡ numbers
numbers_at_start [] = refl
numbers_at_start (n ∷ ns) = let same : 0 + n ≡ n = omega arith in rw (same, numbers_at_start ns) refl

pub at_start : (repeats : List Bool) (text : List ℕ) → file_behind 0 repeats text ≡ file_by repeats text
at_start repeats text =
    let cut = logical_lines_of text in
    ap (λ (lines : List Line). file_in repeats (record { lines = lines; orphans = map (λ n. 0 + n) cut.orphans })) (moved_nowhere cut.lines)
    ∙ ap (λ (numbers : List ℕ). file_in repeats (record { lines = cut.lines; orphans = numbers })) (numbers_at_start cut.orphans)

-- ---- the file that is read as if no name came again, and the repeats among its entries
module _ (text : List ℕ) (file : AliasFile) (repeats : List Bool) (first : file ≡ file_behind 0 [] text) (found : repeats ≡ repeats_in (map entry_name file.entries)) where
  these : repeats ≡ repeats_in (names_of (logical_lines_of text).lines)
  these = found ∙ ap repeats_in (ap (λ (f : AliasFile). map entry_name f.entries) (first ∙ at_start [] text) ∙ names_without (logical_lines_of text).lines)

  pub read_again : file_behind 0 repeats text ≡ alias_file_of text
  read_again = at_start repeats text ∙ ap (λ bs. file_by bs text) these ∙ file_by_repeats text

  pub read_once : has_repeat repeats ≡ false → file ≡ alias_file_of text
  read_once none =
      let lines = (logical_lines_of text).lines in
      let e : added_by new_entries [] lines ≡ added_by new_entries repeats lines = same_without new_entries lines repeats none in
      let f : added_by new_faults [] lines ≡ added_by new_faults repeats lines = same_without new_faults lines repeats none in
      let same : file_by [] text ≡ file_by repeats text = cc in
      first ∙ at_start [] text ∙ same ∙ sym (at_start repeats text) ∙ read_again
