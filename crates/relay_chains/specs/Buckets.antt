-- Buckets whose chains of nodes are linked by number. A word names a node: its number + 1, or 0 for none.
use Rattle.std.specs.Prelude.{◌≡◌, ℕ, ◌%◌, ◌<◌, ◌==◌, zero, suc, List, length, slice_index, if◌then◌else◌}

-- the word of the last node of a bucket among the first nodes, each of which lies in the bucket of its tag
unfoldable pub last_in : ℕ → List ℕ → ℕ → ℕ → ℕ
last_in buckets tags bucket zero = 0
last_in buckets tags bucket (suc number) =
    if (slice_index tags number % buckets) == bucket then suc number
    else last_in buckets tags bucket number

-- each bucket's head names its last node, and each node's link the last one of its bucket before it
pub record AreLinked (heads links tags : List ℕ) : Type 0 where
  pub some_bucket : 0 < length heads
  pub one_each : length links ≡ length tags
  pub head : (bucket : ℕ) → bucket < length heads
      → slice_index heads bucket ≡ last_in (length heads) tags bucket (length tags)
  pub link : (number : ℕ) → number < length tags
      → slice_index links number ≡ last_in (length heads) tags (slice_index tags number % length heads) number
