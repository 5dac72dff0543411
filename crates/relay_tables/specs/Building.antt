-- The parts of a graph before they are put together.
use Rattle.std.specs.Prelude.{◌≡◌, ℕ, ◌≤◌, List, length, map}
use Rattle.std.specs.List.{range_with_len}
use Rattle.relay_text.specs.AddressParts.{AddressParts}
use Rattle.relay_tables.specs.declared.node.Node.{Node}
use Rattle.relay_tables.specs.Directory.{Directory}
use Rattle.relay_tables.specs.GraphParts.{GraphParts}
use Rattle.relay_tables.specs.Targets.{targets_of, recipient_target}
use Rattle.relay_tables.specs.Graphs.{entry_nodes, nodes_of, IsClosedGraph}
use Rattle.relay_tables.specs.Rowing.{nodes_in, some_of, LeadTo}
use Rattle.relay_tables.specs.Transpose.{rows_with}

-- for each node, the rows with its number
pub record AreParents (count : ℕ) (children parents : List (List ℕ)) : Type 0 where
  pub few : length children ≤ count
  pub parents_are : parents ≡ map (rows_with children) (range_with_len 0 count)

-- What is true of every graph: no more rows than nodes, and all numbers are those of nodes and senders.
pub record IsGraph (g : GraphParts) : Type 0 where
  pub closed : IsClosedGraph g
  pub few_rows : length g.children ≤ length g.nodes

-- the nodes of a directory and recipients, a row for each entry, and the recipients' targets
pub record AreRows (d : Directory) (recipients : List AddressParts) (nodes : List Node) (rows : List (List ℕ)) (roots : List ℕ) : Type 0 where
  pub nodes_are : nodes ≡ nodes_of d recipients
  pub rows_are : LeadTo nodes rows (map (targets_of d) (entry_nodes d))
  pub roots_are : nodes_in nodes roots ≡ some_of (map (recipient_target d) recipients)
