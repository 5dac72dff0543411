-- The paths of include items, one item after another.
use Rattle.std.proofs.Common.{◌≡◌, ℕ, ◌+◌, ◌<◌, List, [], ◌∷◌, ◌++◌, length, take, get_or, sym, ap, ◌∙◌, append_assoc, Some, None, Option}
use Rattle.std.specs.Prelude.{filter_map}
use Rattle.std.specs.List.{cons_option}
use Rattle.std.proofs.lemmas.Grind.{flat_map-append}
use Rattle.std.proofs.lemmas.List.{append-nil, take_more}
use Rattle.std.proofs.lemmas.List.Elements.{filter_map-append}
use Rattle.relay_aliasfile.specs.AliasFiles.{items_in, entry_items}
use Rattle.relay_aliasfile.specs.IncludeNames.{included_path}
use Rattle.relay_aliasfile.specs.declared.item.Item.{Item}
use Rattle.relay_aliasfile.specs.declared.entry.Entry.{Entry}

paths_step : (items : List Item) (i : ℕ) (x : Item) (before paths : List (List ℕ)) (o : Option (List ℕ)) → i < length items → x ≡ get_or items i x → o ≡ included_path x
    → paths ≡ before ++ filter_map included_path (take i items) → paths ++ cons_option o [] ≡ before ++ filter_map included_path (take (i + 1) items)
paths_step items i x before paths o inside is path so_far =
    ap (λ ps. ps ++ cons_option o []) so_far
    ∙ append_assoc before (filter_map included_path (take i items)) (cons_option o [])
    ∙ ap (λ p. before ++ (filter_map included_path (take i items) ++ cons_option p [])) (path ∙ ap included_path is)
    ∙ ap (λ ps. before ++ ps) (sym (filter_map-append included_path (take i items) (get_or items i x ∷ [])))
    ∙ ap (λ xs. before ++ filter_map included_path xs) (sym (take_more items i x inside))

pub paths_more : (items : List Item) (i : ℕ) (x : Item) (before paths : List (List ℕ)) (path : List ℕ) → i < length items → x ≡ get_or items i x → Some path ≡ included_path x
    → paths ≡ before ++ filter_map included_path (take i items) → paths ++ path ∷ [] ≡ before ++ filter_map included_path (take (i + 1) items)
paths_more items i x before paths path inside is found so_far = paths_step items i x before paths (Some path) inside is found so_far

pub paths_other : (items : List Item) (i : ℕ) (x : Item) (before paths : List (List ℕ)) → i < length items → x ≡ get_or items i x → None ≡ included_path x
    → paths ≡ before ++ filter_map included_path (take i items) → paths ≡ before ++ filter_map included_path (take (i + 1) items)
paths_other items i x before paths inside is found so_far = sym (append-nil paths) ∙ paths_step items i x before paths None inside is found so_far

-- entry by entry
pub entries_more : (entries : List Entry) (i : ℕ) (x : Entry) (paths : List (List ℕ)) → i < length entries → x ≡ get_or entries i x
    → paths ≡ filter_map included_path (entry_items (take i entries)) → paths ++ filter_map included_path x.items ≡ filter_map included_path (entry_items (take (i + 1) entries))
entries_more entries i x paths inside is so_far =
    ap (λ ps. ps ++ filter_map included_path x.items) so_far
    ∙ sym (filter_map-append included_path (entry_items (take i entries)) x.items)
    ∙ ap (λ (y : Entry). filter_map included_path (entry_items (take i entries) ++ y.items)) is
    ∙ ap (λ items. filter_map included_path (entry_items (take i entries) ++ items)) (sym (append-nil (get_or entries i x).items))
    ∙ ap (filter_map included_path) (sym (flat_map-append items_in (take i entries) (get_or entries i x ∷ [])))
    ∙ ap (λ es. filter_map included_path (entry_items es)) (sym (take_more entries i x inside))
