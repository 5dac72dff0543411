-- What a search has come to, and how it goes on.
use Rattle.std.specs.Prelude.{◌≡◌, ℕ, ◌<◌, ◌≤◌, true, false, List, length, Contains, ◌⊎◌, slice_index}
use Rattle.relay_rounds.specs.Closures.{IsReachedKey}
use Rattle.relay_tables.specs.GraphParts.{GraphParts}
use Rattle.relay_loops.specs.declared.place.Place.{Place}
use Rattle.relay_loops.specs.declared.direction.Direction.{Direction}
use Rattle.relay_loops.specs.Places.{place_at, near_numbers, is_open, met_place}

-- Of the nodes that were open, those found have been met, and all others are as before. Each is led to from a start.
pub record IsSearch (g : GraphParts) (d : Direction) (starts : List ℕ) (old new : List Place) (found : List ℕ) : Type 0 where
  pub moved : (n : ℕ) → (place_at new n ≡ place_at old n) ⊎ ((is_open d (place_at old n) ≡ true) × (place_at new n ≡ met_place d))
  pub listed : (n : ℕ) → place_at new n ≡ met_place d → Contains found n
  pub met : (n : ℕ) → Contains found n → place_at new n ≡ met_place d
  pub led_to : (n : ℕ) → Contains found n → IsReachedKey (near_numbers g d) starts n

-- what is known of a search stays known
abbrev pub KeepsSearch : GraphParts → Direction → List Place → List Place → List ℕ → List ℕ → Type 0
KeepsSearch g d old new before found = (starts : List ℕ) (first : List Place) → IsSearch g d starts first old before → IsSearch g d starts first new found

-- none of the nodes is open
abbrev pub NoneOpen : Direction → List Place → List ℕ → Type 0
NoneOpen d places nodes = (n : ℕ) → Contains nodes n → is_open d (place_at places n) ≡ false

-- each is the number of a place
abbrev pub AreWithin : List Place → List ℕ → Type 0
AreWithin places nodes = (n : ℕ) → Contains nodes n → n < length places

-- Those of the nodes that were open have been met, and stand behind those found before.
pub record AreTaken (d : Direction) (nodes : List ℕ) (old new : List Place) (before found : List ℕ) : Type 0 where
  pub searched : (g : GraphParts) (starts : List ℕ) (first : List Place) → ((n : ℕ) → Contains nodes n → IsReachedKey (near_numbers g d) starts n) → IsSearch g d starts first old before → IsSearch g d starts first new found
  pub none_open : NoneOpen d new nodes
  pub fewer : (n : ℕ) → is_open d (place_at new n) ≡ true → is_open d (place_at old n) ≡ true
  pub from_either : (n : ℕ) → Contains found n → Contains before n ⊎ Contains nodes n
  pub within : AreWithin old before → AreWithin new found
  pub longer : length before ≤ length found
  pub kept : (k : ℕ) → k < length before → slice_index found k ≡ slice_index before k

-- The search has gone on from the first few of the nodes found: no node near one of these is open.
pub record HasWalked (g : GraphParts) (d : Direction) (passed : ℕ) (old new : List Place) (before found : List ℕ) : Type 0 where
  pub searched : KeepsSearch g d old new before found
  pub fewer : (n : ℕ) → is_open d (place_at new n) ≡ true → is_open d (place_at old n) ≡ true
  pub within : AreWithin new found
  pub some : passed ≤ length found
  pub closed : (k : ℕ) → k < passed → NoneOpen d new (near_numbers g d (slice_index found k))

-- The search has gone on from the other nodes found: no node near one of these is open, nor near one that was found anew.
pub record HasGoneOn (g : GraphParts) (d : Direction) (passed : ℕ) (old new : List Place) (before found : List ℕ) : Type 0 where
  pub searched : KeepsSearch g d old new before found
  pub fewer : (n : ℕ) → is_open d (place_at new n) ≡ true → is_open d (place_at old n) ≡ true
  pub closed : (n : ℕ) → Contains found n → ((k : ℕ) × (k < passed) × (slice_index before k ≡ n)) ⊎ NoneOpen d new (near_numbers g d n)

-- The search from the starts is done: they have been met if they were open, and so has all that is near a found node.
pub record IsSpread (g : GraphParts) (d : Direction) (starts : List ℕ) (old new : List Place) (found : List ℕ) : Type 0 where
  pub search : IsSearch g d starts old new found
  pub starts_met : NoneOpen d new starts
  pub closed : (n : ℕ) → Contains found n → NoneOpen d new (near_numbers g d n)
