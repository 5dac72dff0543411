-- Lines of a tree behind others.
use Rattle.std.proofs.Common.{◌++◌, ◌≡◌, ◌<◌, ◌+◌, ℕ, List, [], ◌∷◌, length, flat_map, take, get_or, sym, ap, ◌∙◌, append_assoc}
use Rattle.std.proofs.lemmas.List.{append-nil, take_more}
use Rattle.std.proofs.lemmas.List.Concat.{flat_map-cons}
use Rattle.std.proofs.lemmas.Grind.{flat_map-append}
use Rattle.relay_tables.specs.Directory.{Directory}
use Rattle.relay_tables.specs.GraphParts.{GraphParts}
use Rattle.relay_expansion.specs.declared.row.Row.{Row}
use Rattle.relay_expansion.specs.Rows.{AreRowsOf}
use Rattle.relay_expansion.specs.Trees.{tree_line, IsTreeText}

module _ (d : Directory) (g : GraphParts) where
  pub tree_is : (text : List ℕ) (rows : List Row) → AreRowsOf g rows → text ≡ flat_map (tree_line d g) rows → IsTreeText d g text
  tree_is text rows all is = record { rows = rows; all = all; is = is }

single : (f : Row → List ℕ) (row : Row) → flat_map f (row ∷ []) ≡ f row
single f row = flat_map-cons f row [] ∙ append-nil (f row)

taken : (f : Row → List ℕ) (rows : List Row) (i : ℕ) (first : Row) → i < length rows → flat_map f (take (i + 1) rows) ≡ flat_map f (take i rows) ++ f (get_or rows i first)
taken f rows i first inside =
    ap (λ (front : List Row). flat_map f front) (take_more rows i first inside)
    ∙ flat_map-append f (take i rows) (get_or rows i first ∷ [])
    ∙ ap (λ (t : List ℕ). flat_map f (take i rows) ++ t) (single f (get_or rows i first))

module _ (d : Directory) (g : GraphParts) where
  -- one more line
  pub lines_more : (rows : List Row) (old out out' : List ℕ) (i : ℕ) (first : Row) → i < length rows → out ≡ old ++ flat_map (tree_line d g) (take i rows) → out' ≡ out ++ tree_line d g (get_or rows i first) → out' ≡ old ++ flat_map (tree_line d g) (take (i + 1) rows)
  lines_more rows old out out' i first inside before e =
      e ∙ ap (λ (t : List ℕ). t ++ tree_line d g (get_or rows i first)) before
      ∙ append_assoc old (flat_map (tree_line d g) (take i rows)) (tree_line d g (get_or rows i first))
      ∙ ap (λ (t : List ℕ). old ++ t) (sym (taken (tree_line d g) rows i first inside))
