-- A search in rounds: the keys that are settled, and those that are offered to the next round.
use Rattle.std.specs.Prelude.{◌≡◌, ◌≢◌, ℕ, ◌<◌, ◌≤◌, ◌+◌, List, [], ◌∷◌, ◌++◌, length, All, AllPairs, Contains, ◌↔◌, ◌⊎◌}
use Rattle.relay_rounds.specs.Closures.{IsReachedKey, HasMoreReached}
use Rattle.relay_rounds.specs.Shards.{AreBothOf}

-- settled are keys that are reached, each once; what they and the roots lead to is settled or offered
pub record IsSearch (next : ℕ → List ℕ) (roots settled offered : List ℕ) : Type 0 where
  pub distinct : AllPairs (λ a b. a ≢ b) settled
  pub reached : All (IsReachedKey next roots) settled
  pub offers : All (IsReachedKey next roots) offered
  pub roots_met : (key : ℕ) → Contains roots key → Contains settled key ⊎ Contains offered key
  pub nexts_met : (from to : ℕ) → Contains settled from → Contains (next from) to → Contains settled to ⊎ Contains offered to

-- each offered key, once
pub record AreDistinctOf (offered keys : List ℕ) : Type 0 where
  pub distinct : AllPairs (λ a b. a ≢ b) keys
  pub members : (key : ℕ) → Contains keys key ↔ Contains offered key

-- each offered key that is not settled, once
pub record AreNewOf (settled offered keys : List ℕ) : Type 0 where
  pub distinct : AllPairs (λ a b. a ≢ b) keys
  pub members : (key : ℕ) → Contains keys key ↔ (Contains offered key × (Contains settled key → ⊥))

-- from any search with the first keys, a search with the last ones
abbrev pub GoesOn : (ℕ → List ℕ) → List ℕ → List ℕ → List ℕ → List ℕ → Type 0
GoesOn next settled offered settled_now offered_now = (roots : List ℕ) → IsSearch next roots settled offered → IsSearch next roots settled_now offered_now

-- in any search with these keys, more than the limit are reached
abbrev pub IsTooFar : (ℕ → List ℕ) → List ℕ → List ℕ → ℕ → Type 0
IsTooFar next settled offered limit = (roots : List ℕ) → IsSearch next roots settled offered → HasMoreReached next roots limit

-- keys were settled, or none is offered
abbrev pub Advances : List ℕ → List ℕ → List ℕ → Type 0
Advances settled settled_now offered_now = (length settled < length settled_now) ⊎ ((length settled_now ≡ length settled) × (offered_now ≡ []))

-- a key was settled already; or it is now, and what it leads to is offered behind the rest
abbrev pub IsMet : (ℕ → List ℕ) → ℕ → ℕ → List ℕ → List ℕ → List ℕ → List ℕ → Type 0
IsMet next limit key settled settled_now offered offered_now =
    (Contains settled key × (settled_now ≡ settled) × (offered_now ≡ offered))
    ⊎ ((Contains settled key → ⊥) × AreBothOf settled (key ∷ []) settled_now × (length settled_now ≡ length settled + 1) × (length settled < limit) × (offered_now ≡ offered ++ next key))

-- the keys of a round were settled, and what they lead to is offered
pub record Settles (next : ℕ → List ℕ) (bound limit : ℕ) (settled won settled_now offered_now : List ℕ) : Type 0 where
  pub within : length settled_now ≤ limit
  pub below : All (λ key. key < bound) offered_now
  pub advances : Advances settled settled_now offered_now
  pub search : GoesOn next settled won settled_now offered_now
