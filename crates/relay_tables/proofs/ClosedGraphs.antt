-- A graph of tables leads from its nodes and senders to no others.
use Rattle.std.proofs.Common.{ℕ, ◌^◌, ◌<◌, ◌≤◌, None, List, length, get_or, arith}
use Rattle.std.specs.List.{All}
use Rattle.std.proofs.lemmas.Option.{slice_get_within, slice_get-get_or}
use Rattle.relay_text.specs.AddressParts.{AddressParts}
use Rattle.relay_tables.specs.declared.node.Node.{Node}
use Rattle.relay_tables.specs.declared.node.Node.TheVariants.{Alias}
use Rattle.relay_tables.specs.Directory.{Directory}
use Rattle.relay_tables.specs.GraphParts.{GraphParts}
use Rattle.relay_tables.specs.Targets.{targets_of, recipient_target}
use Rattle.relay_tables.specs.Senders.{Sender, sender_past}
use Rattle.relay_tables.specs.Graphs.{child_numbers, sender_number_after, IsClosedGraph, IsGraphFrom}
use Rattle.relay_tables.proofs.Assembled.{row_below}

module _ (d : Directory) (sender : Sender) (recipients : List AddressParts) (g : GraphParts) (is : IsGraphFrom d sender recipients g) where
  children_below : (n : ℕ) → n < length g.nodes → All (λ c. c < length g.nodes) (child_numbers g n)
  children_below n below =
      let node : Node = get_or g.nodes n (Alias 0) in
      row_below (λ (t : Node). t) g.nodes (child_numbers g n) (targets_of d node) (is.children n node (slice_get-get_or g.nodes n (Alias 0) below))

  sender_below : (s n : ℕ) → s < length g.senders → n < length g.nodes → sender_number_after g s n < length g.senders
  sender_below s n s_below n_below =
      let a : Sender = get_or g.senders s None in
      let node : Node = get_or g.nodes n (Alias 0) in
      slice_get_within g.senders (sender_number_after g s n) (sender_past d a node)
      (is.after s n a node (slice_get-get_or g.senders s None s_below) (slice_get-get_or g.nodes n (Alias 0) n_below))

  pub closed_graph : length g.nodes ≤ 2 ^ 24 → length g.senders ≤ 2 ^ 32 → IsClosedGraph g
  closed_graph nodes senders = record {
    few_nodes = nodes;
    few_senders = senders;
    some_sender = omega (arith, slice_get_within g.senders 0 sender is.envelope_first);
    roots = row_below (recipient_target d) g.nodes g.roots recipients is.roots;
    children = children_below;
    senders = sender_below;
  }
