-- What is read from the steps of a search.
use Rattle.std.specs.Prelude.{◌≡◌, ℕ, ◌<◌, ◌==◌, List, length, map, filter, All, Option, Some}
use Rattle.relay_pairs.specs.declared.reached.Reached.{Reached}
use Rattle.relay_trails.specs.declared.found.Found.{Found}
use Rattle.relay_trails.specs.declared.step.Step.{Step}
use Rattle.relay_trails.specs.Trails.{trail_of}
use Rattle.relay_trails.specs.Steps.{AreLinked, trail_at}
use Rattle.relay_trails.specs.Searches.{pair_in, step_of}

-- each place has a step
pub record HasSteps (count : ℕ) (found : List (Option ℕ)) (steps : List Step) : Type 0 where
  pub sized : length found ≡ count
  pub linked : AreLinked steps
  pub each : (place : ℕ) → place < count → (k : ℕ) × (k < length steps) × (step_of found place ≡ Some k)

-- The answer of a place: its sender, and the trail of its step.
pub record IsAnswer (pairs : List Reached) (found : List (Option ℕ)) (steps : List Step) (node : ℕ) (answer : Found) : Type 0 where
  pub place : ℕ
  pub below : place < length pairs
  pub sender : (pair_in pairs place).sender ≡ answer.sender
  pub node_is : (pair_in pairs place).node ≡ node
  pub step : ℕ
  pub found_is : step_of found place ≡ Some step
  pub trail : trail_of answer ≡ trail_at steps step

-- One for each of some pairs that has the node, in their order.
pub record AreAnswers (some pairs : List Reached) (found : List (Option ℕ)) (steps : List Step) (node : ℕ) (answers : List Found) : Type 0 where
  pub senders : map (λ f. f.sender) answers ≡ map (λ p. p.sender) (filter (λ p. p.node == node) some)
  pub each : All (IsAnswer pairs found steps node) answers
