-- The nodes that lead on, and so may be on a loop.
use Rattle.std.specs.Prelude.{◌≡◌, ℕ, Bool, true, false, List, Contains, slice_index_or}
use Rattle.std.specs.List.Sorted.{IsStrictlyIncreasing}
use Rattle.relay_tables.specs.GraphParts.{GraphParts}
use Rattle.relay_loops.specs.Loops.{IsOnLoop}

-- The nodes are some of a part, ascending, and all of the part that are on a loop are among them.
pub record HasLoops (g : GraphParts) (part nodes : List ℕ) : Type 0 where
  pub ascending : IsStrictlyIncreasing nodes
  pub among : (n : ℕ) → Contains nodes n → Contains part n
  pub loops : (n : ℕ) → Contains part n → IsOnLoop g n → Contains nodes n

-- past the list are no marked nodes
abbrev pub is_marked : List Bool → ℕ → Bool
is_marked marks n = slice_index_or marks n false

-- every node of a part that is on a loop is marked
abbrev pub AreLoopsMarked : GraphParts → List ℕ → List Bool → Type 0
AreLoopsMarked g part marks = (n : ℕ) → Contains part n → IsOnLoop g n → is_marked marks n ≡ true
