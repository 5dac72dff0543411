use Rattle.std.proofs.Common.{Bool, List, ℕ, ◌||◌, ap, ◌∙◌}
use Rattle.relay_text.specs.Bytes.{has_text}
use Rattle.relay_planning.specs.Texts.{has_fault_line}
use Rattle.aliasplan_explain.proofs.basis.Basis.read.Goals as goal

pub read_by-requires-clause-job : goal.read_by-requires-clause-job
read_by-requires-clause-job g c = λ l m. c.parsed_is_readable.ensures.jobs c.args.crew.now.limits.bytes c.args.job.now c.args.crew.now.limited.bytes c.requires

pub of-requires : goal.of-requires
of-requires g c = c.parsed_is_readable.ensures.job_batches c.args.crew.now.limits.bytes c.args.job.now c.requires

pub returns-in-Ok-graph_with_pairs-clause-basis : goal.returns-in-Ok-graph_with_pairs-clause-basis
returns-in-Ok-graph_with_pairs-clause-basis g c =
    let found = c.in-Ok-graph_with_pairs.ensures in
    record {
      origin = c.parsed_jobs.ensures.origin c.requires.0 c.args.job.now c.requires.2;
      tables = c.in-Ok.ensures.tables;
      router = c.in-Ok.ensures.router;
      graph = rw c.of.ensures at found.graph;
      part = rw c.of.ensures at found.part;
      pairs = found.pairs;
      reached = rw c.of.ensures at found.reached;
      few = found.few;
    }

pub returns-in-Ok-graph_with_pairs-clause-lines : goal.returns-in-Ok-graph_with_pairs-clause-lines
returns-in-Ok-graph_with_pairs-clause-lines g c =
    let job = c.args.job.now in λ q. c.in-Ok.ensures.lines q ∙ ap (λ (b : Bool). b || has_fault_line job q) (ap (λ (ls : List (List ℕ)). has_text ls q) c.new-lines.ensures)

pub returns-in-Err-clause-refused : goal.returns-in-Err-clause-refused
returns-in-Err-clause-refused g c = rw c.of.ensures at c.in-Err.ensures.refused
