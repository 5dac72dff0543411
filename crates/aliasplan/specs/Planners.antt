-- What a planner has read.
use Rattle.std.specs.Prelude.{◌≡◌, ℕ, ◌<◌, ◌≤◌, List, [], length, IsTrue}
use Rattle.relay_text.specs.Addresses.{is_origin}
use Rattle.relay_routes.specs.declared.transport.Transport.{Transport}
use Rattle.relay_tables.specs.declared.counting.TableCounts.{TableCounts}
use Rattle.relay_tables.specs.Graphs.{nodes_of}
use Rattle.relay_job.specs.declared.job.Job.{Job}
use Rattle.relay_job.specs.Settings.{limit_of}
use Rattle.relay_planning.specs.declared.lookup.Lookup.{Lookup}
use Rattle.aliasplan.specs.Checks.{AreLines}
use Rattle.relay_planning.specs.Delivery.{directory_of, routing_of}
use Rattle.relay_planning.specs.Limits.{owned_count}
use Rattle.relay_planning.specs.Report.{texts, IsLineOf}

-- What names stand for and what routes addresses, and how many names and owners the tables have, whatever the envelope. Each transport
-- takes some recipient in a transaction.
pub record AreRead (job : Job) (lookup : Lookup) (counts : TableCounts) : Type 0 where
  pub tables : lookup.tables ≡ directory_of job
  pub router : lookup.router ≡ routing_of job
  pub names : counts.names ≡ length (nodes_of (directory_of job) [])
  pub few : counts.names ≤ 16777216
  pub owners : counts.owners ≡ owned_count job
  pub batches : (t : Transport) → 0 < limit_of job.settings t

-- The same, with the lines of files and tables that are at fault. The origin is a domain that addresses may have.
pub record IsReady (job : Job) (lookup : Lookup) (counts : TableCounts) (lines : List (List ℕ)) : Type 0 where
  pub read : AreRead job lookup counts
  pub origin : IsTrue (is_origin job.settings.origin)
  pub faults : AreLines (IsLineOf job texts) lines
