-- What an explanation rests on.
use Rattle.std.specs.Prelude.{◌≡◌, ◌≤◌, length, IsTrue}
use Rattle.relay_text.specs.Addresses.{is_origin}
use Rattle.relay_text.specs.Lines.{logical_lines_of}
use Rattle.relay_pairs.specs.Pairs.{ArePairs}
use Rattle.relay_job.specs.declared.job.Job.{Job}
use Rattle.relay_planning.specs.Delivery.{directory_of, routing_of, IsJobGraph, IsJobPart}
use Rattle.relay_planning.specs.Reaching.{AreReachedPairs}
use Rattle.aliasplan_explain.specs.declared.basis.Basis.{Basis}
use Rattle.aliasplan_explain.specs.declared.reading.Reading.{Reading}

-- what a job's plan is made from
pub record IsBasisOf (job : Job) (b : Basis) : Type 0 where
  pub origin : IsTrue (is_origin job.settings.origin)
  pub tables : b.lookup.tables ≡ directory_of job
  pub router : b.lookup.router ≡ routing_of job
  pub graph : IsJobGraph job b.graph
  pub part : IsJobPart job b.graph
  pub pairs : ArePairs b.graph b.pairs.items
  pub reached : AreReachedPairs job b.graph b.pairs.items
  pub few : length b.pairs.items ≤ 16777216

-- that, with the alias file's logical lines
pub record IsReadingOf (job : Job) (r : Reading) : Type 0 where
  pub basis : IsBasisOf job r.basis
  pub alias_lines : r.alias_lines.items ≡ (logical_lines_of job.aliases).lines
