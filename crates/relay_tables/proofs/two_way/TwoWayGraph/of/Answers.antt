use Rattle.std.proofs.Common.{◌≡◌, ℕ, ◌<◌, List, length, map, ap, ◌∙◌, subst, arith}
use Rattle.std.specs.List.{range_with_len}
use Rattle.std.proofs.lemmas.List.Elements.{All-weaker}
use Rattle.relay_tables.specs.Building.{IsGraph}
use Rattle.relay_tables.specs.GraphParts.{GraphParts}
use Rattle.relay_tables.specs.Graphs.{child_numbers}
use Rattle.relay_tables.specs.Transpose.{rows_with}
use Rattle.relay_tables.proofs.Assembled.{rows_hold}
use Rattle.relay_tables.proofs.two_way.TwoWayGraph.of.Goals as goal

pub transposed-requires-clause-numbers : goal.transposed-requires-clause-numbers
transposed-requires-clause-numbers c =
    let g = c.args.graph.now in
    let known : IsGraph g = subst IsGraph c.graph.view_is c.graph.invariant in
    let rows : c.graph.inside.children ≡ g.children = ap (λ (h : GraphParts). h.children) c.graph.view_is in
    rw rows
    (rows_hold (λ n. n < c.nodes-count.result) g.children (λ n below.
    All-weaker (λ m. m < length g.nodes) (λ m. m < c.nodes-count.result) (λ m less. omega (arith, less, c.nodes-count.ensures.value)) (child_numbers g n)
    (known.closed.children n (omega (arith, below, known.few_rows)))))

pub invariant_of-result : goal.invariant_of-result
invariant_of-result c =
    let g = c.args.graph.now in
    let known : IsGraph g = subst IsGraph c.graph.view_is c.graph.invariant in
    let rows : c.graph.inside.children ≡ g.children = ap (λ (h : GraphParts). h.children) c.graph.view_is in
    record {
      few = known.few_rows;
      parents_are =
          c.in_ok-transposed.ensures
          ∙ ap (λ (r : List (List ℕ)). map (rows_with r) (range_with_len 0 c.nodes-count.result)) rows
          ∙ ap (λ (n : ℕ). map (rows_with g.children) (range_with_len 0 n)) c.nodes-count.ensures.value;
    }
