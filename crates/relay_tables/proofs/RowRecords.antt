-- Lemmas on rows that are kept in their records.
use Rattle.std.proofs.Common.{◌≡◌, ℕ, ◌+◌, ◌-◌, ◌<◌, ◌≤◌, ◌^◌, List, [], ◌∷◌, ◌++◌, length, map, take, ⊎_elim, refl, sym, ap, ◌∙◌, arith}
use Rattle.std.specs.List.{All, concat}
use Rattle.std.proofs.lemmas.Bool.{cond_below, cond_above, cases_lt, cases_eq}
use Rattle.std.proofs.lemmas.List.{length-map, length_push, map_push, get_or_push, get_or_append_left, take_more, append-nil}
use Rattle.std.proofs.lemmas.List.Elements.{All-head, All-tail, All-push, All-weaker}
use Rattle.std.proofs.lemmas.List.Folds.{concat-append}
use Rattle.std.proofs.lemmas.Option.{unwrap_or-slice_get}
use Rattle.relay_chains.proofs.Texts.{cut-push, texts-push}
use Rattle.relay_tables.specs.Adjacency.{lists_of, row_of, row_in, rows_of, IsPlaced, IsAdjacency}
use Rattle.relay_tables.proofs.Cuts.{length-lists, row-past}

row_short : (longs : List (List ℕ)) (kept : ℕ) → kept < 2 ^ 31 → kept ∷ [] ≡ row_in longs kept
row_short longs kept below = cond_below kept (2 ^ 31) (kept ∷ []) (row_of longs (kept - 2 ^ 31)) below

row_long : (longs : List (List ℕ)) (kept : ℕ) → 2 ^ 31 ≤ kept → row_of longs (kept - 2 ^ 31) ≡ row_in longs kept
row_long longs kept from = cond_above kept (2 ^ 31) (kept ∷ []) (row_of longs (kept - 2 ^ 31)) (row_of longs (kept - 2 ^ 31)) from refl

-- the record of an empty row is a place past the long rows
row_empty : (longs : List (List ℕ)) (kept : ℕ) → length longs < 2 ^ 31 → kept ≡ 2 ^ 32 - 1 → row_in longs kept ≡ []
row_empty longs kept few is = sym (row_long longs kept (omega arith)) ∙ row-past longs (kept - 2 ^ 31) (omega arith)

-- one more long row, in the next place
row_pushed : (longs : List (List ℕ)) (row : List ℕ) (kept : ℕ) → kept ≡ 2 ^ 31 + length longs → row_in (longs ++ row ∷ []) kept ≡ row
row_pushed longs row kept is =
    sym (row_long (longs ++ row ∷ []) kept (omega arith))
    ∙ unwrap_or-slice_get (longs ++ row ∷ []) (kept - 2 ^ 31) []
    ∙ get_or_push longs row [] (kept - 2 ^ 31) (omega arith)

-- which changes none of the rows before
place_stays : (longs : List (List ℕ)) (row : List ℕ) (kept : ℕ) → length longs < 2 ^ 31 - 1 → 2 ^ 31 ≤ kept → IsPlaced (length longs) kept
    → row_of (longs ++ row ∷ []) (kept - 2 ^ 31) ≡ row_of longs (kept - 2 ^ 31)
place_stays longs row kept few from placed =
    ⊎_elim
    (λ empty. row-past (longs ++ row ∷ []) (kept - 2 ^ 31) (omega (arith, length_push longs row)) ∙ sym (row-past longs (kept - 2 ^ 31) (omega arith)))
    (λ other.
    unwrap_or-slice_get (longs ++ row ∷ []) (kept - 2 ^ 31) []
    ∙ get_or_append_left longs (row ∷ []) [] (kept - 2 ^ 31) (let below = placed other in omega arith)
    ∙ sym (unwrap_or-slice_get longs (kept - 2 ^ 31) []))
    (cases_eq kept (2 ^ 32 - 1))

row_stays : (longs : List (List ℕ)) (row : List ℕ) (kept : ℕ) → length longs < 2 ^ 31 - 1 → IsPlaced (length longs) kept → row_in (longs ++ row ∷ []) kept ≡ row_in longs kept
row_stays longs row kept few placed =
    ⊎_elim
    (λ below. sym (row_short (longs ++ row ∷ []) kept below) ∙ row_short longs kept below)
    (λ from. sym (row_long (longs ++ row ∷ []) kept from) ∙ place_stays longs row kept few from placed ∙ row_long longs kept from)
    (cases_lt kept (2 ^ 31))

rows_stay : (longs : List (List ℕ)) (row records : List ℕ) → length longs < 2 ^ 31 - 1 → All (IsPlaced (length longs)) records
    → map (row_in (longs ++ row ∷ [])) records ≡ map (row_in longs) records
rows_stay longs row [] few placed = refl
rows_stay longs row (kept ∷ records) few placed =
    let first = row_stays longs row kept few (All-head (IsPlaced (length longs)) kept records placed) in
    let rest = rows_stay longs row records few (All-tail (IsPlaced (length longs)) kept records placed) in
    cc

module _ (records numbers ends : List ℕ) (is : IsAdjacency records numbers ends) where
  few_longs : length (rows_of records numbers ends) < 2 ^ 31 - 1 → length (lists_of numbers ends) < 2 ^ 31 - 1
  few_longs few = omega (arith, is.few, length-lists numbers ends, length-map records (row_in (lists_of numbers ends)))

  -- one more empty row
  pub empty_more : (kept : ℕ) → kept ≡ 2 ^ 32 - 1 → length (rows_of records numbers ends) < 2 ^ 31 - 1 → rows_of (records ++ kept ∷ []) numbers ends ≡ rows_of records numbers ends ++ [] ∷ []
  empty_more kept empty few =
      map_push (row_in (lists_of numbers ends)) records kept
      ∙ ap (λ (r : List ℕ). rows_of records numbers ends ++ r ∷ []) (row_empty (lists_of numbers ends) kept (omega (arith, few_longs few)) empty)

  -- one more long row
  pub with_long : (row : List ℕ) (kept : ℕ) → kept ≡ 2 ^ 31 + length ends → IsAdjacency (records ++ kept ∷ []) (numbers ++ row) (ends ++ length (numbers ++ row) ∷ [])
  with_long row kept place =
      let long = length_push ends (length (numbers ++ row)) in
      record {
        cut = cut-push numbers row ends is.cut;
        few = omega (arith, is.few, long, length_push records kept);
        placed = All-push (IsPlaced (length (ends ++ length (numbers ++ row) ∷ []))) records kept
            (All-weaker (IsPlaced (length ends)) (IsPlaced (length (ends ++ length (numbers ++ row) ∷ []))) (λ k placed other. let below = placed other in omega (arith, long)) records is.placed)
            (λ other. omega (arith, long));
      }

  pub long_more : (row : List ℕ) (kept : ℕ) → kept ≡ 2 ^ 31 + length ends → length (rows_of records numbers ends) < 2 ^ 31 - 1
      → rows_of (records ++ kept ∷ []) (numbers ++ row) (ends ++ length (numbers ++ row) ∷ []) ≡ rows_of records numbers ends ++ row ∷ []
  long_more row kept place few =
      let longs = lists_of numbers ends in
      ap (λ (ls : List (List ℕ)). map (row_in ls) (records ++ kept ∷ [])) (texts-push numbers row 0 ends is.cut.within is.cut.whole)
      ∙ map_push (row_in (longs ++ row ∷ [])) records kept
      ∙ ap (λ (rs : List (List ℕ)). rs ++ row_in (longs ++ row ∷ []) kept ∷ []) (rows_stay longs row records (few_longs few) (rw (length-lists numbers ends) is.placed))
      ∙ ap (λ (r : List ℕ). map (row_in longs) records ++ r ∷ []) (row_pushed longs row kept (omega (arith, length-lists numbers ends)))

-- the rows so far, and one more
pub one_row_more : (rows : List (List ℕ)) (k : ℕ) → k < length rows → take (k + 1) rows ≡ take k rows ++ row_of rows k ∷ []
one_row_more rows k below = take_more rows k [] below ∙ ap (λ (r : List ℕ). take k rows ++ r ∷ []) (sym (unwrap_or-slice_get rows k []))

-- their numbers
pub concat_more : (rows : List (List ℕ)) (numbers row : List ℕ) (k : ℕ) → k < length rows → numbers ≡ concat (take k rows) → row ≡ row_of rows k → numbers ++ row ≡ concat (take (k + 1) rows)
concat_more rows numbers row k below so_far is =
    let joined : numbers ++ row ≡ concat (take k rows) ++ row_of rows k = cc in
    joined
    ∙ ap (λ (r : List ℕ). concat (take k rows) ++ r) (sym (append-nil (row_of rows k)))
    ∙ sym (concat-append (take k rows) (row_of rows k ∷ []))
    ∙ ap concat (sym (one_row_more rows k below))
