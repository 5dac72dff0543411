-- What a search has come to.
use Rattle.std.specs.Prelude.{◌≡◌, ℕ, ◌<◌, Bool, List, length, map, slice_index_or, Option, Some, None, ◌⊎◌}
use Rattle.std.specs.Option.{is_some}
use Rattle.relay_tables.specs.GraphParts.{GraphParts}
use Rattle.relay_pairs.specs.declared.reached.Reached.{Reached}
use Rattle.relay_trails.specs.declared.step.Link.{Link}
use Rattle.relay_trails.specs.declared.step.Step.{Step}
use Rattle.relay_trails.specs.Trails.{Trail, IsLess, IsBest, ends_in}
use Rattle.relay_trails.specs.Steps.{AreLinked, IsEarlier, link_at, next_trail, pair_at, place_at, trail_at}

abbrev pub no_pair : Reached
no_pair = record { sender = 0; node = 0 }

-- the pair of a place
abbrev pub pair_in : List Reached → ℕ → Reached
pair_in pairs place = slice_index_or pairs place no_pair

-- the number of the step of a place, if it has one
abbrev pub step_of : List (Option ℕ) → ℕ → Option ℕ
step_of found place = slice_index_or found place None

abbrev pub IsAtMost : Trail → Trail → Type 0
IsAtMost t u = IsLess t u ⊎ (t ≡ u)

-- Each step has a place of its own, the pair there, and a trail that ends in that pair. The trails rise.
pub record IsSearch (g : GraphParts) (pairs : List Reached) (found : List (Option ℕ)) (steps : List Step) : Type 0 where
  pub sized : length found ≡ length pairs
  pub steps_found : (place k : ℕ) → step_of found place ≡ Some k → (k < length steps) × (place_at steps k ≡ place)
  pub places : (k : ℕ) → k < length steps → (place_at steps k < length pairs) × (step_of found (place_at steps k) ≡ Some k)
  pub ends : (k : ℕ) → k < length steps → ends_in g (trail_at steps k) ≡ Some (pair_in pairs (place_at steps k))
  pub pairs_are : (k : ℕ) → k < length steps → pair_at steps k ≡ pair_in pairs (place_at steps k)
  pub linked : AreLinked steps
  pub rising : (j k : ℕ) → j < k → k < length steps → IsLess (trail_at steps j) (trail_at steps k)

-- a step for the pair, with a trail that is no greater
pub record IsCovered (pairs : List Reached) (steps : List Step) (t : Trail) (pair : Reached) : Type 0 where
  pub step : ℕ
  pub below : step < length steps
  pub same : pair_in pairs (place_at steps step) ≡ pair
  pub at_most : IsAtMost (trail_at steps step) t

-- The search has come to a link: it has taken those before it, and no others.
pub record IsAt (g : GraphParts) (pairs : List Reached) (found : List (Option ℕ)) (steps : List Step) (next : Link) : Type 0 where
  pub search : IsSearch g pairs found steps
  pub earlier : (k : ℕ) → k < length steps → IsEarlier (link_at steps k) next
  pub covered : (link : Link) (pair : Reached) → IsEarlier link next → ends_in g (next_trail steps link) ≡ Some pair → IsCovered pairs steps (next_trail steps link) pair

-- The same, where the places that have a step are marked.
pub record IsMarkedAt (g : GraphParts) (pairs : List Reached) (marks : List Bool) (steps : List Step) (next : Link) : Type 0 where
  pub found : List (Option ℕ)
  pub marked : map is_some found ≡ marks
  pub at : IsAt g pairs found steps next

-- Each step has a place and the pair there, and a trail that ends in that pair.
pub record AreEnds (g : GraphParts) (pairs : List Reached) (steps : List Step) : Type 0 where
  pub pairs_are : (k : ℕ) → k < length steps → pair_at steps k ≡ pair_in pairs (place_at steps k)
  pub places : (k : ℕ) → k < length steps → place_at steps k < length pairs
  pub ends : (k : ℕ) → k < length steps → ends_in g (trail_at steps k) ≡ Some (pair_in pairs (place_at steps k))

-- Each place has a step, whose trail is the best.
pub record IsDone (g : GraphParts) (pairs : List Reached) (found : List (Option ℕ)) (steps : List Step) : Type 0 where
  pub sized : length found ≡ length pairs
  pub linked : AreLinked steps
  pub ended : AreEnds g pairs steps
  pub best : (place : ℕ) → place < length pairs → (k : ℕ) × (k < length steps) × (step_of found place ≡ Some k) × IsBest g (pair_in pairs place) (trail_at steps k)

-- The search has ended: the places of its steps are known, and each place has one.
pub record IsFinished (g : GraphParts) (pairs : List Reached) (steps : List Step) : Type 0 where
  pub found : List (Option ℕ)
  pub search : IsSearch g pairs found steps
  pub done : IsDone g pairs found steps

-- the number of the step of each place
pub record AreNumbers (count : ℕ) (steps : List Step) (numbers : List ℕ) : Type 0 where
  pub long : length numbers ≡ count
  pub each : (k : ℕ) → k < length steps → slice_index_or numbers (place_at steps k) 0 ≡ k
