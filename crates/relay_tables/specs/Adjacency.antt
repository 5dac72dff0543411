-- Rows of numbers, each kept in a record of 32 bits or cut out of one list.
use Rattle.std.specs.Prelude.{◌≢◌, ℕ, ◌+◌, ◌-◌, ◌^◌, ◌<◌, ◌≤◌, nat_lt, List, [], ◌∷◌, length, map, slice_get, unwrap_or, All, if◌then◌else◌}
use Rattle.relay_chains.specs.Interner.{texts_from, AreCut}

-- the rows in order: each begins where the one before it ends
abbrev pub lists_of : List ℕ → List ℕ → List (List ℕ)
lists_of numbers ends = texts_from numbers 0 ends

-- a row, or nothing past the last one
abbrev pub row_of : List (List ℕ) → ℕ → List ℕ
row_of rows number = unwrap_or (slice_get rows number) []

-- the row of a record: its only number, or else what stands in its place among the long rows
abbrev pub row_in : List (List ℕ) → ℕ → List ℕ
row_in longs kept = if nat_lt kept (2 ^ 31) then kept ∷ [] else row_of longs (kept - 2 ^ 31)

-- the rows of records, where these ends cut the numbers into the long ones
abbrev pub rows_of : List ℕ → List ℕ → List ℕ → List (List ℕ)
rows_of records numbers ends = map (row_in (lists_of numbers ends)) records

-- a record is that of an empty row, or a number, or the place of one of so many long rows
abbrev pub IsPlaced : ℕ → ℕ → Type 0
IsPlaced longs kept = kept ≢ 2 ^ 32 - 1 → kept < 2 ^ 31 + longs

-- The ends cut the numbers into the long rows, of which there are no more than records, and each record is of a row that is there.
pub record IsAdjacency (records numbers ends : List ℕ) : Type 0 where
  pub cut : AreCut numbers ends
  pub few : length ends ≤ length records
  pub placed : All (IsPlaced (length ends)) records
