use Rattle.std.proofs.Common.{◌≡◌, Some, sym, ◌∙◌}
use Rattle.relay_job.specs.JobText.{sender_in}
use Rattle.relay_job.specs.JobParts.{line_in, commands_at}
use Rattle.relay_job.proofs.ReasonFacts.{recipient-broken}
use Rattle.relay_job.proofs.envelope.Envelope.reason.Goals as goal

pub returns-in-Some-split_from : goal.returns-in-Some-split_from
returns-in-Some-split_from c = λ number h.
    let named : sender_in c.args.origin.now (line_in c.in-Some.command).text ≡ Some c.in-Some-path._sender = sym c.in_ok-path.ensures ∙ c.in-Some-path.is in
    recipient-broken c.args.origin.now c.args.section.line number (commands_at c.args.section) (line_in c.in-Some.command) _ _ (commands_at c.in-Some.after) c.in-Some-path._sender c.in-Some.ensures.lines c.in-Some-split_from.ensures.lines named h
