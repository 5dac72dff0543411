-- What is asked for, and the trails there.
use Rattle.std.specs.Prelude.{All}
use Rattle.relay_tables.specs.GraphParts.{GraphParts}
use Rattle.relay_trails.specs.Trails.{HasNodes}
use Rattle.relay_trails.specs.Chains.{AreBestBy}
use Rattle.relay_job.specs.declared.job.Job.{Job}
use Rattle.relay_explain.specs.declared.asked.Asked.{Asked}
use Rattle.relay_planning.specs.Delivery.{directory_of}
use Rattle.aliasplan_explain.specs.declared.sought.Sought.{Sought}
use Rattle.aliasplan_explain.specs.Targets.{IsAskedFor}

pub record IsSought (job : Job) (g : GraphParts) (question : Asked) (s : Sought) : Type 0 where
  pub node : IsAskedFor job question s.node
  pub best : AreBestBy (directory_of job) job.sender job.recipients g s.node s.found.items
  pub nodes : All (HasNodes g) s.found.items
