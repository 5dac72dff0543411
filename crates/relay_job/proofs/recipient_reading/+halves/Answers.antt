use Rattle.std.proofs.Common.{List, sym, subst}
use Rattle.std.specs.Prelude.{IfOk, IfErr}
use Rattle.relay_text.specs.declared.lines.Line.{Line}
use Rattle.relay_job.specs.JobParts.{commands_at, first_bad_recipient, AreRecipientsOf, Stops}
use Rattle.relay_job.proofs.RecipientHalves.{commands_at-halves}
use Rattle.relay_job.proofs.recipient_reading.+halves.Goals as goal

pub returns-clause-ok : goal.returns-clause-ok
returns-clause-ok g t c =
    let origin = c.args.origin.now in
    let cut = commands_at-halves c.args.section c.split_behind.result.0 c.split_behind.result.1 c.requires.within c.split_behind.ensures in
    let read = c.both.ensures origin (commands_at c.split_behind.result.0) (commands_at c.split_behind.result.1) c.join-there.ensures.second.0 c.join-there.ensures.second.1 c.join-there.ensures.first.0 c.join-there.ensures.first.1 in
    subst (λ (commands : List Line). IfOk c.both.result (λ recipients. AreRecipientsOf origin commands recipients.items)) (sym cut) read.0

pub returns-clause-err : goal.returns-clause-err
returns-clause-err g t c =
    let origin = c.args.origin.now in
    let cut = commands_at-halves c.args.section c.split_behind.result.0 c.split_behind.result.1 c.requires.within c.split_behind.ensures in
    let read = c.both.ensures origin (commands_at c.split_behind.result.0) (commands_at c.split_behind.result.1) c.join-there.ensures.second.0 c.join-there.ensures.second.1 c.join-there.ensures.first.0 c.join-there.ensures.first.1 in
    subst (λ (commands : List Line). IfErr c.both.result (Stops (first_bad_recipient origin commands))) (sym cut) read.1
