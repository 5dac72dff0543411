-- What any list of transactions has to be, in whatever order, however it's grouped and cut.
use Rattle.std.specs.Prelude.{◌≡◌, ℕ, ◌≤◌, List, length, Contains, slice_index}
use Rattle.relay_rings.specs.declared.batching.Placed.{Placed}
use Rattle.relay_rings.specs.declared.batching.Transaction.{Transaction}

-- Each transaction, of one key, has at most the key's limit of items, each placed at that key, and each placed item is in one.
pub record IsSound {T K X : Type 0} (key : T → K) (items : T → List X) (limit : K → ℕ) (IsPlaced : K → X → Type 0) (ts : List T) : Type 0 where
  pub within : (t : T) → Contains ts t → length (items t) ≤ limit (key t)
  pub placed : (t : T) (x : X) → Contains ts t → Contains (items t) x → IsPlaced (key t) x
  pub complete : (k : K) (x : X) → IsPlaced k x → (t : T) × Contains ts t × (key t ≡ k) × Contains (items t) x

abbrev pub IsSoundFor : List ℕ → List Placed → List Transaction → Type 0
IsSoundFor limits placed ts = IsSound (λ (t : Transaction). t.key) (λ (t : Transaction). t.items) (slice_index limits) (λ key item. Contains placed (record { key = key; item = item })) ts
