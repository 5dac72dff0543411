-- Batches (RFC 5321 section 4.5.3.1.8: a client splits a list of recipients that is longer than a transaction takes).
use Rattle.std.specs.Prelude.{ℕ, ◌+◌, ◌-◌, ◌*◌, ◌/◌, Bool, ◌&&◌, ◌||◌, ◌==◌, nat_lt, nat_eq, List, length, map, filter, flat_map, slice_range, slice_index, AllPairs, IsTrue}
use Rattle.std.specs.List.{range_with_len, dedup}
use Rattle.relay_rings.specs.declared.batching.Placed.{Placed}
use Rattle.relay_rings.specs.declared.batching.Transaction.{Transaction}

-- how many parts of at most `size` elements a list of n has: n / size, rounded up
abbrev pub part_count : ℕ → ℕ → ℕ
part_count n size = (n + size - 1) / size

-- the consecutive parts of a list, each of `size` elements but the last, which may be shorter
abbrev pub parts_of : {X : Type 0} → ℕ → List X → List (List X)
parts_of size xs = map (λ k. slice_range xs (k * size) (k * size + size)) (range_with_len 0 (part_count (length xs) size))

-- the items of a key, in order
abbrev pub items_at : List Placed → ℕ → List ℕ
items_at placed key = map (λ p. p.item) (filter (λ p. p.key == key) placed)

-- a list's consecutive parts, each as a transaction of a key
abbrev pub transactions_of : ℕ → ℕ → List ℕ → List Transaction
transactions_of key limit items = map (λ part. record { key = key; items = part }) (parts_of limit items)

abbrev pub batches_at : List ℕ → List Placed → ℕ → List Transaction
batches_at limits placed key = map (λ part. record { key = key; items = part }) (parts_of (slice_index limits key) (items_at placed key))

-- the distinct keys of placed items of which equal keys stand side by side
abbrev pub keys_of : List Placed → List ℕ
keys_of placed = dedup nat_eq (map (λ p. p.key) placed)

-- The batches of each key in turn; equal keys stand side by side.
abbrev pub batches_of : List ℕ → List Placed → List Transaction
batches_of limits placed = flat_map (batches_at limits placed) (dedup nat_eq (map (λ p. p.key) placed))

-- by key, and then by item
abbrev pub comes_before : Placed → Placed → Bool
comes_before p q = nat_lt p.key q.key || ((p.key == q.key) && nat_lt p.item q.item)

abbrev pub IsAscendingPlaced : List Placed → Type 0
IsAscendingPlaced placed = AllPairs (λ p q. IsTrue (comes_before p q)) placed
