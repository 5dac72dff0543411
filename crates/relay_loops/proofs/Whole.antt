-- All nodes of a graph are a closed part: each child is the number of a node.
use Rattle.std.proofs.Common.{ℕ, ◌+◌, ◌<◌, length, Contains, ◌∙◌, zero-add, arith}
use Rattle.std.specs.List.{range_with_len}
use Rattle.std.proofs.lemmas.List.Elements.{All-contains}
use Rattle.std.proofs.lemmas.List.FromFn.{length-range_with_len, get_or-range_with_len}
use Rattle.relay_tables.specs.GraphParts.{GraphParts}
use Rattle.relay_tables.specs.Graphs.{child_numbers, IsClosedGraph}
use Rattle.relay_loops.specs.Loops.{IsClosedPart}

in_range : (n k : ℕ) → k < n → Contains (range_with_len 0 n) k
in_range n k below =
    let inside : k < length (range_with_len 0 n) = omega (arith, length-range_with_len 0 n) in
    (k, inside, get_or-range_with_len 0 n k k below ∙ zero-add k)

from_range : (n k : ℕ) → Contains (range_with_len 0 n) k → k < n
from_range n k c =
    let below : c.0 < n = omega (arith, length-range_with_len 0 n, c.1) in
    omega (arith, c.2, get_or-range_with_len 0 n c.0 k below)

pub whole_part : (g : GraphParts) → IsClosedGraph g → IsClosedPart g (range_with_len 0 (length g.nodes))
whole_part g closed =
    let count : ℕ = length g.nodes in
    record {
      ascending = λ k below.
          let last : k + 1 < count = omega (arith, length-range_with_len 0 count) in
          omega (arith, get_or-range_with_len 0 count k 0 (omega arith), get_or-range_with_len 0 count (k + 1) 0 last);
      in_graph = λ k n inside.
          let below : k < count = omega (arith, length-range_with_len 0 count) in
          omega (arith, get_or-range_with_len 0 count k n below);
      children = λ parent child p c.
          in_range count child (All-contains (λ n. n < count) (child_numbers g parent) child (closed.children parent (from_range count parent p)) c);
    }
