-- Nodes of pairs, marked by number.
use Rattle.std.specs.Prelude.{◌≡◌, ℕ, Bool, true, false, List, Contains, ◌↔◌, slice_index_or}
use Rattle.std.specs.List.Sorted.{IsStrictlyIncreasing}
use Rattle.relay_pairs.specs.declared.reached.Reached.{Reached}

-- the mark of a number, which those past the end don't have
abbrev pub mark_at : List Bool → ℕ → Bool
mark_at marks n = slice_index_or marks n false

-- the nodes of these pairs are marked, and no other
pub record AreMarks (pairs : List Reached) (marks : List Bool) : Type 0 where
  pub of_pairs : (p : Reached) → Contains pairs p → mark_at marks p.node ≡ true
  pub only : (n : ℕ) → mark_at marks n ≡ true → (p : Reached) × Contains pairs p × (p.node ≡ n)

-- the marked numbers, ascending, each once
pub record AreMarked (marks : List Bool) (nodes : List ℕ) : Type 0 where
  pub ascending : IsStrictlyIncreasing nodes
  pub members : (n : ℕ) → Contains nodes n ↔ (mark_at marks n ≡ true)
