-- Where nodes stand while the loops are looked for, and the steps of the two searches.
use Rattle.std.specs.Prelude.{◌^◌, ◌≤◌, ◌≡◌, ℕ, Bool, true, false, List, map, length, Contains, slice_index_or, if◌then◌else◌}
use Rattle.relay_tables.specs.GraphParts.{GraphParts}
use Rattle.relay_tables.specs.Graphs.{child_numbers, parent_numbers}
use Rattle.relay_loops.specs.declared.place.Place.{Place}
use Rattle.relay_loops.specs.declared.place.Place.TheVariants.{Left, Ahead, Around, Looped, Clear}
use Rattle.relay_loops.specs.declared.direction.Direction.{Direction}
use Rattle.relay_loops.specs.declared.direction.Direction.TheVariants.{Onward, Backward}

-- the place of a node: past the list are none of the nodes that are asked for
abbrev pub place_at : List Place → ℕ → Place
place_at places n = slice_index_or places n Clear

abbrev pub is_left : Place → Bool
is_left Left = true
is_left place = false

abbrev pub is_ahead : Place → Bool
is_ahead Ahead = true
is_ahead place = false

abbrev pub is_looped : Place → Bool
is_looped Looped = true
is_looped place = false

-- whether no search is on its way through the node
abbrev pub is_resting : Place → Bool
is_resting Left = true
is_resting Ahead = false
is_resting Around = false
is_resting Looped = true
is_resting Clear = true

-- the place once the pivot has its answer
abbrev pub settled : Place → Place
settled Around = Looped
settled Ahead = Left
settled place = place

-- the nodes that are one step from a node
abbrev pub near_numbers : GraphParts → Direction → ℕ → List ℕ
near_numbers g Onward n = child_numbers g n
near_numbers g Backward n = parent_numbers g n

-- whether a search goes to the nodes of a place
abbrev pub is_open : Direction → Place → Bool
is_open Onward place = is_left place
is_open Backward place = is_ahead place

-- the place of the nodes that it has come to
abbrev pub met_place : Direction → Place
met_place Onward = Ahead
met_place Backward = Around

-- From one node to near ones: those that the search doesn't go to are replaced by the node itself.
abbrev pub open_key : Direction → List Place → ℕ → ℕ → ℕ
open_key d places node near = if is_open d (place_at places near) then near else node

abbrev pub open_keys : Direction → List Place → ℕ → List ℕ → List ℕ
open_keys d places node near = map (open_key d places node) near

-- the places of the nodes of a list are changed by `change`, and no others
pub record IsChangedAt (change : Place → Place) (nodes : List ℕ) (old new : List Place) : Type 0 where
  pub changed : (n : ℕ) → Contains nodes n → place_at new n ≡ change (place_at old n)
  pub same : (n : ℕ) → ¬ Contains nodes n → place_at new n ≡ place_at old n

-- there are no more places than nodes, and so few enough to be searched
pub record HasPlaces (g : GraphParts) (places : List Place) : Type 0 where
  pub numbers : length places ≤ 2 ^ 24
  pub in_graph : length places ≤ length g.nodes
