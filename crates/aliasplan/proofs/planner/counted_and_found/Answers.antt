use Rattle.relay_job.specs.Tables.{without_envelope}
use Rattle.aliasplan.proofs.CheckFacts.{texts_are}
use Rattle.aliasplan.proofs.planner.counted_and_found.Goals as goal

pub returns-in-Ok-counts_of-clause-findings : goal.returns-in-Ok-counts_of-clause-findings
returns-in-Ok-counts_of-clause-findings c =
    let found = c.in-Ok.ensures in
    texts_are (without_envelope c.args.job.now) c.in-Ok.findings c.args.lines found.all found.ascending c.requires.lines
