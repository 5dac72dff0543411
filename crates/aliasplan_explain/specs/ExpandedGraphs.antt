-- What names and addresses lead to, as a text of the graph of a message to them from the null sender.
use Rattle.std.specs.Prelude.{◌≡◌, ℕ, ◌≤◌, List, length, take, Option, Ok}
use Rattle.std.specs.Io.KnownBytes.{Appends}
use Rattle.relay_tables.specs.GraphParts.{GraphParts}
use Rattle.relay_expansion.specs.declared.form.GraphForm.{GraphForm}
use Rattle.relay_expansion.specs.GraphTexts.{IsTextOf}
use Rattle.relay_job.specs.declared.job.Job.{Job}
use Rattle.relay_job.specs.Tables.{tables_of}
use Rattle.relay_explain.specs.declared.asked.Asked.{Asked}
use Rattle.relay_planning.specs.declared.options.Limits.{Limits}
use Rattle.relay_planning.specs.Delivery.{directory_of, IsJobGraph}
use Rattle.relay_planning.specs.Limits.{IsWithin}
use Rattle.aliasplan_explain.specs.Expansions.{to_asked}

-- the text of the job's graph: its nodes and edges are those of the graph
pub record IsGraphTextOf (job : Job) (form : GraphForm) (text : List ℕ) : Type 0 where
  pub graph : GraphParts
  pub is_graph : IsJobGraph job graph
  pub told : IsTextOf (directory_of job) graph form text

-- what becomes of a text
pub record IsGraphText (limits : Limits) (questions : List Asked) (form : GraphForm) (input text : List ℕ) : Type 0 where
  pub size : length input ≤ limits.bytes
  pub tables : Job
  pub read : tables_of input ≡ Ok tables
  pub within : IsWithin limits (to_asked tables questions)
  pub told : IsGraphTextOf (to_asked tables questions) form text

-- that text is written
pub record WritesGraph (limits : Limits) (questions : List Asked) (form : GraphForm) (input : List ℕ) (old new : Option (List ℕ)) : Type 0 where
  pub text : List ℕ
  pub due : IsGraphText limits questions form input text
  pub written : Appends old new text

-- A failed write: a front of that text is written behind what was there.
pub record WritesGraphFront (limits : Limits) (questions : List Asked) (form : GraphForm) (input : List ℕ) (old new : Option (List ℕ)) : Type 0 where
  pub text : List ℕ
  pub due : IsGraphText limits questions form input text
  pub count : ℕ
  pub written : Appends old new (take count text)
