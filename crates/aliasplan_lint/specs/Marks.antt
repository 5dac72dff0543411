-- Findings that are told.
use Rattle.std.specs.Prelude.{◌≡◌, ℕ, ◌<◌, true, false, List, [], ◌∷◌, ◌++◌, length, map, slice_index_or, slice_set, Some, All, Contains}
use Rattle.aliasplan_lint.specs.declared.lint.Lint.{Lint}
use Rattle.aliasplan_lint.specs.declared.whole.Whole.{Whole}
use Rattle.aliasplan_lint.specs.Lints.{IsOfFinding, finding_in}

-- what is marked is told, and each lint is of a finding
pub record AreMarked (findings : List (List ℕ)) (whole : Whole) : Type 0 where
  pub long : length whole.told.items ≡ length findings
  pub told : (k : ℕ) → slice_index_or whole.told.items k false ≡ true → Contains (map finding_in whole.lints.items) (Some k)
  pub alone : All (IsOfFinding findings) whole.lints.items

-- a lint of the finding at a place is added, and that marked
pub record Marks (findings : List (List ℕ)) (place : ℕ) (old new : Whole) : Type 0 where
  pub lint : Lint
  pub added : new.lints.items ≡ old.lints.items ++ lint ∷ []
  pub is : lint.finding ≡ Some place
  pub of : IsOfFinding findings lint
  pub marked : new.told.items ≡ slice_set old.told.items place true

-- The finding at a place is told, and what was told is.
pub record Covers (findings : List (List ℕ)) (place : ℕ) (old new : Whole) : Type 0 where
  pub marked : AreMarked findings new
  pub here : slice_index_or new.told.items place false ≡ true
  pub kept : (k : ℕ) → slice_index_or old.told.items k false ≡ true → slice_index_or new.told.items k false ≡ true
