-- The members that a walk in depth meets, and how it goes on.
use Rattle.std.specs.Prelude.{◌≡◌, ℕ, ◌+◌, ◌*◌, ◌<◌, ◌≤◌, ◌&&◌, Bool, true, false, List, [], ◌∷◌, ◌++◌, length, All, Contains, Option, None, Some, option_map, unwrap_or, replicate, set, slice_get, slice_index_or, if◌then◌else◌}
use Rattle.std.specs.List.{sum_by}
use Rattle.relay_tables.specs.GraphParts.{GraphParts}
use Rattle.relay_tables.specs.declared.node.Node.{Node}
use Rattle.relay_tables.specs.declared.node.Node.TheVariants.{Alias, Include, Mailbox, Remote, Missing, NoInclude, Command, File}
use Rattle.relay_tables.specs.Graphs.{child_numbers}
use Rattle.relay_expansion.specs.declared.row.Row.{Row}
use Rattle.relay_expansion.specs.declared.row.Standing.{Standing}
use Rattle.relay_expansion.specs.declared.row.Standing.TheVariants.{First, Open, Told}
use Rattle.relay_expansion.specs.declared.walk.Visit.{Visit}

-- A recipient's target, or the target of one of an entry's items.
abbrev pub IsMember : GraphParts → Option ℕ → ℕ → Type 0
IsMember g None node = Contains g.roots node
IsMember g (Some entry) node = Contains (child_numbers g entry) node

pub record IsRow (g : GraphParts) (row : Row) : Type 0 where
  pub node : row.node < length g.nodes
  pub member : IsMember g row.parent row.node

abbrev pub standing_of : List Standing → ℕ → Standing
standing_of standings n = slice_index_or standings n Told

abbrev pub is_first : Standing → Bool
is_first First = true
is_first Open = false
is_first Told = false

abbrev pub is_entry : Node → Bool
is_entry (Alias n) = true
is_entry (Include n) = true
is_entry (Mailbox a) = false
is_entry (Remote a) = false
is_entry (Missing text) = false
is_entry (NoInclude path) = false
is_entry (Command text) = false
is_entry (File path) = false

abbrev pub depth_below : Option ℕ → ℕ → ℕ
depth_below None depth = 0
depth_below (Some entry) depth = depth + 1

-- the row of a node that is met from within so many entries, beside the one whose member it is
abbrev pub met_row : List Standing → ℕ → Option ℕ → ℕ → Row
met_row standings depth parent node = record { parent = parent; node = node; depth = depth_below parent depth; standing = standing_of standings node }

abbrev pub visit : ℕ → ℕ → Visit
visit node looked = record { node = node; looked = looked }

module _ (g : GraphParts) where
  -- a walk comes to the entries that it meets and hasn't come to
  abbrev pub goes_to : List Standing → ℕ → Bool
  goes_to standings n = is_first (standing_of standings n) && unwrap_or (option_map is_entry (slice_get g.nodes n)) false

  abbrev pub standings_after : List Standing → ℕ → List Standing
  standings_after standings n = if goes_to standings n then set standings n Open else standings

  abbrev pub path_after : List Standing → List Visit → ℕ → List Visit
  path_after standings path n = if goes_to standings n then path ++ visit n 0 ∷ [] else path

  -- How far a walk comes that meets each root, and behind one that it comes to the members in the order of its items, and leaves it behind the last:
  -- after so many roots, with these standings, within these entries, by these rows.
  pub data Walks : ℕ → List Standing → List Visit → List Row → Type 0 where
    begins : Walks 0 (replicate (length g.nodes) First) [] []
    asks : (asked : ℕ) (standings : List Standing) (rows : List Row) (node : ℕ) → Walks asked standings [] rows → slice_get g.roots asked ≡ Some node → Walks (asked + 1) (standings_after standings node) (path_after standings [] node) (rows ++ met_row standings 0 None node ∷ [])
    meets : (asked : ℕ) (standings : List Standing) (front : List Visit) (rows : List Row) (entry at node : ℕ) → Walks asked standings (front ++ visit entry at ∷ []) rows → slice_get (child_numbers g entry) at ≡ Some node → Walks asked (standings_after standings node) (path_after standings (front ++ visit entry (at + 1) ∷ []) node) (rows ++ met_row standings (length front) (Some entry) node ∷ [])
    leaves : (asked : ℕ) (standings : List Standing) (front : List Visit) (rows : List Row) (entry at : ℕ) → Walks asked standings (front ++ visit entry at ∷ []) rows → length (child_numbers g entry) ≤ at → Walks asked (set standings entry Told) front rows

  -- all that a walk meets by the time that it has left all, row by row
  pub record AreRowsOf (rows : List Row) : Type 0 where
    pub standings : List Standing
    pub walks : Walks (length g.roots) standings [] rows

abbrev pub one_if_first : Standing → ℕ
one_if_first First = 1
one_if_first Open = 0
one_if_first Told = 0

-- what is left to do: it falls with each step
abbrev pub work_left : List Standing → List Visit → ℕ
work_left standings path = 2 * sum_by one_if_first standings + length path

-- A walk within a graph, which met rows of that graph alone.
pub record IsWalk (g : GraphParts) (standings : List Standing) (path : List Visit) (rows : List Row) : Type 0 where
  pub sized : length standings ≡ length g.nodes
  pub within : All (λ visit. visit.node < length g.nodes) path
  pub told : All (IsRow g) rows
