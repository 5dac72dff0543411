-- The steps of a search, and the trails that they stand for.
use Rattle.std.specs.Prelude.{◌≡◌, ℕ, ◌<◌, ◌≤◌, Bool, true, false, List, [], ◌∷◌, ◌++◌, length, slice_index_or, slice_set, MatchOption, ◌⊎◌, ⊤, Option, Some, None}
use Rattle.relay_pairs.specs.declared.reached.Reached.{Reached}
use Rattle.relay_trails.specs.declared.step.Link.{Link}
use Rattle.relay_trails.specs.declared.step.Link.TheVariants.{Recipient, Item}
use Rattle.relay_trails.specs.declared.step.Step.{Step}
use Rattle.relay_trails.specs.Trails.{Trail}

abbrev pub no_trail : Trail
no_trail = record { recipient = 0; items = [] }

abbrev pub no_step : Step
no_step = record { place = 0; pair = record { sender = 0; node = 0 }; link = Recipient 0 }

-- the trail with one more item
abbrev pub with_item : Trail → ℕ → Trail
with_item t item = record { recipient = t.recipient; items = t.items ++ item ∷ [] }

-- the trail of a step, after those of the steps before it
abbrev pub trail_by : List Trail → Link → Trail
trail_by trails (Recipient recipient) = record { recipient = recipient; items = [] }
trail_by trails (Item from item) = with_item (slice_index_or trails from no_trail) item

abbrev pub trails_on : List Trail → List Step → List Trail
trails_on trails [] = trails
trails_on trails (step ∷ steps) = trails_on (trails ++ trail_by trails step.link ∷ []) steps

unfoldable pub trails_of : List Step → List Trail
trails_of steps = trails_on [] steps

module _ (steps : List Step) where
  abbrev pub trail_at : ℕ → Trail
  trail_at k = slice_index_or (trails_of steps) k no_trail

  abbrev pub place_at : ℕ → ℕ
  place_at k = (slice_index_or steps k no_step).place

  abbrev pub pair_at : ℕ → Reached
  pair_at k = (slice_index_or steps k no_step).pair

  abbrev pub link_at : ℕ → Link
  link_at k = (slice_index_or steps k no_step).link

  -- the trail of a next step
  abbrev pub next_trail : Link → Trail
  next_trail link = trail_by (trails_of steps) link

-- the link is to a step before the one of this number
abbrev pub IsBackward : Link → ℕ → Type 0
IsBackward (Recipient recipient) k = ⊤
IsBackward (Item from item) k = from < k

-- links in the order in which the search takes them
abbrev pub IsEarlier : Link → Link → Type 0
IsEarlier (Recipient q) (Recipient r) = q < r
IsEarlier (Recipient q) (Item k i) = ⊤
IsEarlier (Item j h) (Recipient r) = ⊥
IsEarlier (Item j h) (Item k i) = (j < k) ⊎ ((j ≡ k) × (h < i))

-- each step's trail is what its link says
pub record AreLinked (steps : List Step) : Type 0 where
  pub backward : (k : ℕ) → k < length steps → IsBackward (link_at steps k) k
  pub trails : (k : ℕ) → k < length steps → trail_at steps k ≡ next_trail steps (link_at steps k)

-- A pair that has no step yet gets one, behind those that there are.
abbrev pub IsTaken : ℕ → Reached → Link → List (Option ℕ) → List Step → List (Option ℕ) → List Step → Type 0
IsTaken place pair link found steps found_after steps_after =
    MatchOption (slice_index_or found place None)
    ((found_after ≡ slice_set found place (Some (length steps))) × (steps_after ≡ steps ++ record { place = place; pair = pair; link = link } ∷ []))
    (λ k. (found_after ≡ found) × (steps_after ≡ steps))

-- A place without a mark gets one, and a step. Of a place with a mark nothing changes.
pub record IsMarked (place : ℕ) (pair : Reached) (link : Link) (marks : List Bool) (steps : List Step) (marks_after : List Bool) (steps_after : List Step) : Type 0 where
  pub fresh : slice_index_or marks place false ≡ false → (marks_after ≡ slice_set marks place true) × (steps_after ≡ steps ++ record { place = place; pair = pair; link = link } ∷ [])
  pub known : slice_index_or marks place false ≡ true → (marks_after ≡ marks) × (steps_after ≡ steps)

-- the steps that there were are still there
pub record IsKept (before after : List Step) : Type 0 where
  pub longer : length before ≤ length after
  pub places : (k : ℕ) → k < length before → place_at after k ≡ place_at before k
