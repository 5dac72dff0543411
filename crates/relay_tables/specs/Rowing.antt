-- Rows of node numbers, and what they lead to.
use Rattle.std.specs.Prelude.{◌≡◌, ℕ, List, map, slice_get, Option, Some}
use Rattle.relay_tables.specs.declared.node.Node.{Node}

-- the nodes of a row's numbers
abbrev pub nodes_in : List Node → List ℕ → List (Option Node)
nodes_in nodes row = map (slice_get nodes) row

abbrev pub some_of : List Node → List (Option Node)
some_of ns = map (λ n. Some n) ns

-- each row's numbers are those of its nodes
abbrev pub LeadTo : List Node → List (List ℕ) → List (List Node) → Type 0
LeadTo nodes rows targets = map (nodes_in nodes) rows ≡ map some_of targets
