use Rattle.std.proofs.lemmas.Result.{err_from_is_err_and}
use Rattle.relay_job.proofs.EnvelopeFacts.{recipients-refused, envelope-made, envelope-early}
use Rattle.relay_job.proofs.envelope.Envelope.read.Goals as goal

pub returns-in_err-recipients-clause-err : goal.returns-in_err-recipients-clause-err
returns-in_err-recipients-clause-err c =
    let p = err_from_is_err_and c.from_residual-in_err-recipients.result c.from_residual-in_err-recipients.ensures.1 in
    rw (p.1, p.2) (recipients-refused c.args.origin.now c.args.section _ _ c.in_ok-sender.ensures.ok _ c.in_err-recipients.ensures.err)

pub returns-clause-ok : goal.returns-clause-ok
returns-clause-ok c = envelope-made c.args.origin.now c.args.section _ _ c.in_ok-sender.ensures.ok c.in_ok-recipients.recipients.items c.in_ok-recipients.ensures.ok c.of.result c.of.ensures.ok

pub returns-clause-err : goal.returns-clause-err
returns-clause-err c = envelope-early c.args.origin.now c.args.section _ _ c.in_ok-sender.ensures.ok c.in_ok-recipients.recipients.items c.in_ok-recipients.ensures.ok c.of.result c.of.ensures.err
