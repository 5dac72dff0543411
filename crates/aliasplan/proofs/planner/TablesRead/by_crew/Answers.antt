use Rattle.std.proofs.Common.{ap, ◌∙◌, ◌||◌, List, ℕ}
use Rattle.relay_text.specs.Bytes.{has_text}
use Rattle.relay_planning.specs.Texts.{has_fault_line}
use Rattle.aliasplan.proofs.planner.TablesRead.by_crew.Goals as goal

pub read_by-requires-clause-job : goal.read_by-requires-clause-job
read_by-requires-clause-job g c = λ l m. c.parsed_is_readable.ensures.tables c.args.crew.now.limits.bytes c.args.job.now c.args.crew.now.limited.bytes c.requires.tables

pub of_lookup-requires-clause-lines : goal.of_lookup-requires-clause-lines
of_lookup-requires-clause-lines g c = λ q. c.in-Ok.ensures.lines q ∙ ap (λ (old : List (List ℕ)). has_text old q || has_fault_line c.args.job.now q) c.new-lines.ensures

pub of_lookup-requires-clause-batches : goal.of_lookup-requires-clause-batches
of_lookup-requires-clause-batches g c = λ t. c.parsed_is_readable.ensures.table_batches c.args.crew.now.limits.bytes c.args.job.now c.requires.tables t
