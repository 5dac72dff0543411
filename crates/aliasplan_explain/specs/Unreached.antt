-- The items that lead to a node.
use Rattle.std.specs.Prelude.{ℕ, ◌==◌, List, [], ◌∷◌, flat_map, if◌then◌else◌}
use Rattle.relay_tables.specs.declared.node.Node.{Node}
use Rattle.relay_tables.specs.Targets.{targets_of}
use Rattle.relay_tables.specs.Graphs.{entry_nodes, same_node}
use Rattle.relay_job.specs.declared.job.Job.{Job}
use Rattle.relay_explain.specs.declared.listed.Listed.{Listed}
use Rattle.relay_planning.specs.Delivery.{directory_of}
use Rattle.aliasplan_explain.specs.Rows.{listed_by}

-- of some items, those whose target is the node
abbrev pub listed_for : Node → List Node → List Listed → List Listed
listed_for node [] items = []
listed_for node (target ∷ targets) [] = []
listed_for node (target ∷ targets) (item ∷ items) = if same_node target node then item ∷ listed_for node targets items else listed_for node targets items

-- the same by the targets' numbers
abbrev pub numbered_for : ℕ → List ℕ → List Listed → List Listed
numbered_for number [] items = []
numbered_for number (target ∷ targets) [] = []
numbered_for number (target ∷ targets) (item ∷ items) = if target == number then item ∷ numbered_for number targets items else numbered_for number targets items

module _ (job : Job) (node : Node) where
  -- those of an entry or include file
  abbrev pub listed_of : Node → List Listed
  listed_of from = listed_for node (targets_of (directory_of job) from) (listed_by job from)

  -- Those of all entries and then of all include files, in their order.
  abbrev pub unreached_of : List Listed
  unreached_of = flat_map listed_of (entry_nodes (directory_of job))
