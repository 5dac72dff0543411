-- How many nodes recipients add.
use Rattle.std.proofs.Common.{◌≡◌, ◌+◌, ◌≤◌, List, [], ◌∷◌, length, map, ap, ◌∙◌, inl, inr, arith}
use Rattle.std.specs.List.{list_any, flat_map}
use Rattle.std.proofs.lemmas.Bool.{cases_Bool}
use Rattle.std.proofs.lemmas.List.{length-map, length_push}
use Rattle.relay_text.specs.AddressParts.{AddressParts}
use Rattle.relay_tables.specs.declared.node.Node.{Node}
use Rattle.relay_tables.specs.Directory.{Directory}
use Rattle.relay_tables.specs.Targets.{targets_of, recipient_target}
use Rattle.relay_tables.specs.Graphs.{entry_nodes, nodes_of, same_node}
use Rattle.relay_tables.specs.Numbering.{with_node, with_nodes}
use Rattle.relay_tables.proofs.Firsts.{firsts-from, no_fewer, with_node-there, with_node-new, with_nodes-none}

one_more : (nodes : List Node) (n : Node) → length (with_node nodes n) ≤ length nodes + 1
one_more nodes n =
    elim (cases_Bool (list_any (same_node n) nodes)) [
      | inl there ↦ omega (arith, ap length (with_node-there nodes n there))
      | inr new ↦ omega (arith, ap length (with_node-new nodes n new), length_push nodes n)
    ]

no_more : (nodes xs : List Node) → length (with_nodes nodes xs) ≤ length nodes + length xs
unfolding with_nodes
no_more nodes [] = omega arith
no_more nodes (x ∷ xs) = omega (arith, no_more (with_node nodes x) xs, one_more nodes x)

module _ (d : Directory) (recipients : List AddressParts) where
  abbrev of_tables : List Node
  of_tables = with_nodes (entry_nodes d) (flat_map (targets_of d) (entry_nodes d))

  with_recipients : length (nodes_of d recipients) ≡ length (with_nodes of_tables (map (recipient_target d) recipients))
  with_recipients = ap length (firsts-from (length d.aliases) (length d.includes) (flat_map (targets_of d) (entry_nodes d)) (map (recipient_target d) recipients))

  without : length (nodes_of d []) ≡ length of_tables
  without = ap length (firsts-from (length d.aliases) (length d.includes) (flat_map (targets_of d) (entry_nodes d)) [] ∙ with_nodes-none of_tables)

  pub at_most : length (nodes_of d recipients) ≤ length (nodes_of d []) + length recipients
  at_most = omega (arith, with_recipients, without, no_more of_tables (map (recipient_target d) recipients), length-map recipients (recipient_target d))

  pub at_least : length (nodes_of d []) ≤ length (nodes_of d recipients)
  at_least = omega (arith, with_recipients, without, no_fewer of_tables (map (recipient_target d) recipients))
