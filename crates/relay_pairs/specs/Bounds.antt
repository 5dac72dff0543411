-- The keys after a key stay below the bound.
use Rattle.std.proofs.Common.{ℕ, ◌+◌, ◌*◌, ◌^◌, ◌<◌, length, get_or, All, inl, inr, arith}
use Rattle.std.proofs.lemmas.Bool.{cases_lt, le-ltb, lt-ltb}
use Rattle.std.proofs.lemmas.List.Elements.{All-map}
use Rattle.relay_tables.specs.GraphParts.{GraphParts}
use Rattle.relay_tables.specs.Graphs.{child_numbers, sender_number_after, IsClosedGraph}
use Rattle.relay_pairs.specs.declared.reached.Reached.{Reached}
use Rattle.relay_pairs.specs.Pairs.{key_count, key_after, keys_from, keys_after, pair_at}

below_product : (s n senders : ℕ) → s < senders → n < 2 ^ 24 → s * 2 ^ 24 + n < senders * 2 ^ 24
below_product s n senders h k = omega arith

module _ (g : GraphParts) (closed : IsClosedGraph g) where
  pub keys_from-below : (from : Reached) → from.sender < length g.senders → All (λ next. next < key_count g) (keys_from g from)
  keys_from-below from below =
      elim (cases_lt from.node (length g.nodes)) [
        | inl n_below ↦
            rw (lt-ltb from.node (length g.nodes) n_below)
            (All-map (λ next. next < key_count g) (key_after g from) (child_numbers g from.node)
            (λ k d short.
            let child : ℕ = get_or (child_numbers g from.node) k d in
            let c : child < length g.nodes = closed.children from.node n_below k d short in
            let s : sender_number_after g from.sender from.node < length g.senders = closed.senders from.sender from.node below n_below in
            below_product (sender_number_after g from.sender from.node) child (length g.senders) s (omega (arith, c, closed.few_nodes))))
        | inr outside ↦ rw (le-ltb from.node (length g.nodes) outside) (λ k d short. absurd (omega (arith, short)))
      ]

  pub keys_after-below : (key : ℕ) → key < key_count g → All (λ next. next < key_count g) (keys_after g key)
  keys_after-below key h = keys_from-below (pair_at key) (omega (arith, h))
