use Rattle.std.proofs.Common.{sym}
use Rattle.relay_job.proofs.HeadingFacts.{section_of-none}
use Rattle.relay_job.proofs.heading.Heading.of.Goals as goal

pub returns-in_err-path-in-None : goal.returns-in_err-path-in-None
returns-in_err-path-in-None c =
    rw c.from_residual.ensures (sym (section_of-none c.args.text.now (sym c.in-None.ensures) (sym (rw c.in_err-path-in-None.was at c.include_path.ensures))))
