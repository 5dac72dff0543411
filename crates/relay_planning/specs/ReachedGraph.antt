-- What a job reaches, on a graph of its names.
use Rattle.std.specs.Prelude.{◌≤◌, length}
use Rattle.relay_pairs.specs.Pairs.{ArePairs}
use Rattle.relay_job.specs.declared.job.Job.{Job}
use Rattle.relay_planning.specs.declared.reached_graph.ReachedGraph.{ReachedGraph}
use Rattle.relay_planning.specs.Delivery.{IsJobPart}
use Rattle.relay_planning.specs.Reaching.{AreReachedPairs}

-- a graph on which all stands that the job's recipients lead to, and the pairs that are reached there, each once
pub record IsReachedGraph (job : Job) (reached : ReachedGraph) : Type 0 where
  pub graph : IsJobPart job reached.graph
  pub pairs : ArePairs reached.graph reached.pairs.items
  pub are_reached : AreReachedPairs job reached.graph reached.pairs.items
  pub few : length reached.pairs.items ≤ 16777216
