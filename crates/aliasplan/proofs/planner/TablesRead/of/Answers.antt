use Rattle.std.proofs.Common.{ap, ◌∙◌, ◌||◌, List, ℕ}
use Rattle.relay_text.specs.Bytes.{has_text}
use Rattle.relay_planning.specs.Texts.{has_fault_line}
use Rattle.aliasplan.proofs.planner.TablesRead.of.Goals as goal

pub read-requires : goal.read-requires
read-requires c = record { job = c.parsed_is_readable.ensures.tables c.args.limits.bytes c.args.job.now c.requires.limits.bytes c.requires.tables }

pub of_lookup-requires-clause-lines : goal.of_lookup-requires-clause-lines
of_lookup-requires-clause-lines c = λ q. c.in-Ok.ensures.lines q ∙ ap (λ (old : List (List ℕ)). has_text old q || has_fault_line c.args.job.now q) c.new-lines.ensures

pub of_lookup-requires-clause-batches : goal.of_lookup-requires-clause-batches
of_lookup-requires-clause-batches c = λ t. c.parsed_is_readable.ensures.table_batches c.args.limits.bytes c.args.job.now c.requires.tables t
