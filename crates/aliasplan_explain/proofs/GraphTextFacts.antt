-- The text of a graph is that of a job.
use Rattle.std.proofs.Common.{◌≡◌, ℕ, List, subst}
use Rattle.relay_tables.specs.Directory.{Directory}
use Rattle.relay_tables.specs.GraphParts.{GraphParts}
use Rattle.relay_expansion.specs.declared.form.GraphForm.{GraphForm}
use Rattle.relay_expansion.specs.GraphTexts.{IsTextOf}
use Rattle.relay_job.specs.declared.job.Job.{Job}
use Rattle.relay_planning.specs.Delivery.{directory_of, IsJobGraph}
use Rattle.aliasplan_explain.specs.ExpandedGraphs.{IsGraphTextOf}

pub graph_told : (job : Job) (form : GraphForm) (d : Directory) (g : GraphParts) (text : List ℕ) → d ≡ directory_of job → IsJobGraph job g → IsTextOf d g form text → IsGraphTextOf job form text
graph_told job form d g text same is_graph told = record { graph = g; is_graph = is_graph; told = subst (λ (e : Directory). IsTextOf e g form text) same told }
