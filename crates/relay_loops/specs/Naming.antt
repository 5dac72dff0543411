-- A walk in depth, as its lists say it.
use Rattle.std.specs.Prelude.{◌≡◌, ℕ, ◌+◌, ◌*◌, ◌<◌, Bool, true, false, List, length, map, All, Contains, ◌⊎◌, slice_index_or}
use Rattle.std.specs.List.{sum_by}
use Rattle.relay_loops.specs.declared.pivots.Visit.{Visit}

-- whether a node is still to be walked to
abbrev pub is_fresh : List Bool → ℕ → Bool
is_fresh fresh n = slice_index_or fresh n false

abbrev pub nodes_of : List Visit → List ℕ
nodes_of path = map (λ visit. visit.node) path

-- a node is to be walked to, or the walk came along it, or has left it
abbrev pub IsKept : List Bool → List Visit → List ℕ → ℕ → Type 0
IsKept fresh path order n = (is_fresh fresh n ≡ true) ⊎ (Contains (nodes_of path) n ⊎ Contains order n)

-- a walk goes on: it loses no node, and none becomes fresh
pub record GoesOn (fresh : List Bool) (path : List Visit) (order : List ℕ) (fresh' : List Bool) (path' : List Visit) (order' : List ℕ) : Type 0 where
  pub kept : (n : ℕ) → IsKept fresh path order n → IsKept fresh' path' order' n
  pub fewer : (n : ℕ) → is_fresh fresh n ≡ false → is_fresh fresh' n ≡ false
  pub sized : length fresh' ≡ length fresh
  pub within : All (λ visit. visit.node < length fresh) path → All (λ visit. visit.node < length fresh') path'

abbrev pub one_if : Bool → ℕ
one_if true = 1
one_if false = 0

-- what is left to do: it falls with each step
abbrev pub work_left : List Bool → List Visit → ℕ
work_left fresh path = 2 * sum_by one_if fresh + length path
