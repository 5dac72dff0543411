-- What is kept while the nodes are answered: a loop is answered as a whole, and the answers are right.
use Rattle.std.specs.Prelude.{◌≡◌, ℕ, true, false, List, Contains}
use Rattle.relay_rounds.specs.Walks.{IsWalk}
use Rattle.relay_tables.specs.GraphParts.{GraphParts}
use Rattle.relay_tables.specs.Graphs.{child_numbers}
use Rattle.relay_loops.specs.declared.place.Place.{Place}
use Rattle.relay_loops.specs.declared.place.Place.TheVariants.{Left, Looped, Clear}
use Rattle.relay_loops.specs.Loops.{IsOnLoop}
use Rattle.relay_loops.specs.Places.{place_at, is_resting, is_left}

-- some walk leads from one to the other
pub record Leads (next : ℕ → ℕ → Type 0) (from to : ℕ) : Type 0 where
  pub path : List ℕ
  pub walk : IsWalk next from path to

-- a chain of children leads from one node to the other
abbrev pub LeadsTo : GraphParts → ℕ → ℕ → Type 0
LeadsTo g = Leads (λ parent child. Contains (child_numbers g parent) child)

-- no search is on its way
abbrev pub IsResting : List Place → Type 0
IsResting places = (n : ℕ) → is_resting (place_at places n) ≡ true

-- A loop through a node that is left has such nodes only, and the answers are right.
pub record IsJudged (g : GraphParts) (reached : List ℕ) (places : List Place) : Type 0 where
  pub whole : (parent child : ℕ) → place_at places parent ≡ Left → Contains (child_numbers g parent) child → LeadsTo g child parent → place_at places child ≡ Left
  pub looped : (n : ℕ) → place_at places n ≡ Looped → IsOnLoop g n
  pub clear : (n : ℕ) → Contains reached n → place_at places n ≡ Clear → ¬ IsOnLoop g n

-- what is known of the places stays known
abbrev pub KeepsJudged : GraphParts → List Place → List Place → Type 0
KeepsJudged g old new = (reached : List ℕ) → IsJudged g reached old → IsJudged g reached new

-- every answer stays
abbrev pub KeepsAnswers : List Place → List Place → Type 0
KeepsAnswers old new = (n : ℕ) → is_left (place_at old n) ≡ false → is_left (place_at new n) ≡ false
