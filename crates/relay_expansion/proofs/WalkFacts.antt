-- The steps of a walk.
use Rattle.std.proofs.Common.{set, length-append, ◌++◌, ◌≡◌, ℕ, ◌+◌, ◌<◌, ◌≤◌, zero, suc, List, [], ◌∷◌, length, All, None, Some, true, false, replicate, slice_get, ap, arith, get_or}
use Rattle.std.proofs.lemmas.List.Sums.{sum_by-set}
use Rattle.relay_expansion.specs.declared.row.Standing.{Standing}
use Rattle.relay_expansion.specs.declared.row.Standing.TheVariants.{First, Open, Told}
use Rattle.relay_expansion.specs.declared.walk.Visit.{Visit}
use Rattle.relay_tables.specs.GraphParts.{GraphParts}
use Rattle.relay_tables.specs.Graphs.{child_numbers}
use Rattle.relay_expansion.specs.declared.row.Row.{Row}
use Rattle.relay_expansion.specs.Rows.{goes_to, met_row, one_if_first, standing_of, visit, work_left, IsRow, IsWalk, Walks, begins, asks, meets}

pub first-below : (standings : List Standing) (n : ℕ) → standing_of standings n ≡ First → n < length standings
first-below [] n h = cc
first-below (x ∷ xs) zero h = omega arith
first-below (x ∷ xs) (suc n) h = let r = first-below xs n h in omega arith

-- a node is come to
pub entered_work : (standings : List Standing) (path : List Visit) (node : ℕ) (visit : Visit) → standing_of standings node ≡ First → work_left (set standings node Open) (path ++ visit ∷ []) < work_left standings path
entered_work standings path node visit first =
    let few = sum_by-set one_if_first standings node Open Told (first-below standings node first) in
    let one : one_if_first (get_or standings node Told) ≡ one_if_first First = ap one_if_first first in
    let long = length-append path (visit ∷ []) in
    omega (arith, few, one, long)

-- a node is left
pub left_work : (standings : List Standing) (path : List Visit) (node : ℕ) → node < length standings → work_left (set standings node Told) path ≤ work_left standings path
left_work standings path node below =
    let few = sum_by-set one_if_first standings node Told Told below in
    omega (arith, few)

pub is_walk : (g : GraphParts) (standings : List Standing) (path : List Visit) (rows : List Row) → length standings ≡ length g.nodes → All (λ visit. visit.node < length g.nodes) path → All (IsRow g) rows → IsWalk g standings path rows
is_walk g standings path rows sized within told = record { sized = sized; within = within; told = told }

module _ (g : GraphParts) where
  pub begun : (standings : List Standing) (path : List Visit) (rows : List Row) → standings ≡ replicate (length g.nodes) First → path ≡ [] → rows ≡ [] → Walks g 0 standings [] rows
  begun standings path rows s p r = rw (s, r) begins

  -- a root that is met, and not come to, or come to
  pub asked_by : (asked : ℕ) (standings : List Standing) (rows rows' : List Row) (node depth : ℕ) → Walks g asked standings [] rows → slice_get g.roots asked ≡ Some node → goes_to g standings node ≡ false → rows' ≡ rows ++ met_row standings depth None node ∷ [] → Walks g (asked + 1) standings [] rows'
  asked_by asked standings rows rows' node depth walks root stays e =
      let more = asks asked standings rows node walks root in
      rw e (rw stays at more)

  pub asked_in : (asked : ℕ) (standings : List Standing) (rows rows' : List Row) (node depth : ℕ) → Walks g asked standings [] rows → slice_get g.roots asked ≡ Some node → goes_to g standings node ≡ true → rows' ≡ rows ++ met_row standings depth None node ∷ [] → Walks g (asked + 1) (set standings node Open) (visit node 0 ∷ []) rows'
  asked_in asked standings rows rows' node depth walks root goes e =
      let more = asks asked standings rows node walks root in
      rw e (rw goes at more)

  -- a member that is met, and not come to, or come to
  pub met_by : (asked : ℕ) (standings : List Standing) (front : List Visit) (rows rows' : List Row) (entry at node : ℕ) → Walks g asked standings (front ++ visit entry at ∷ []) rows → slice_get (child_numbers g entry) at ≡ Some node → goes_to g standings node ≡ false → rows' ≡ rows ++ met_row standings (length front) (Some entry) node ∷ [] → Walks g asked standings (front ++ visit entry (at + 1) ∷ []) rows'
  met_by asked standings front rows rows' entry at node walks member stays e =
      let more = meets asked standings front rows entry at node walks member in
      rw e (rw stays at more)

  pub met_in : (asked : ℕ) (standings : List Standing) (front : List Visit) (rows rows' : List Row) (entry at node : ℕ) → Walks g asked standings (front ++ visit entry at ∷ []) rows → slice_get (child_numbers g entry) at ≡ Some node → goes_to g standings node ≡ true → rows' ≡ rows ++ met_row standings (length front) (Some entry) node ∷ [] → Walks g asked (set standings node Open) ((front ++ visit entry (at + 1) ∷ []) ++ visit node 0 ∷ []) rows'
  met_in asked standings front rows rows' entry at node walks member goes e =
      let more = meets asked standings front rows entry at node walks member in
      rw e (rw goes at more)
