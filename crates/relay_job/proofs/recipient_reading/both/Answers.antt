use Rattle.std.proofs.Common.{◌++◌, refl}
use Rattle.std.proofs.lemmas.Result.{err_from_is_err_and, IfOk-at_ok, IfErr-at_err}
use Rattle.relay_job.specs.JobParts.{first_bad_recipient, AreRecipientsOf, Stops}
use Rattle.relay_job.proofs.RecipientHalves.{both_read, first_refused, second_refused}
use Rattle.relay_job.proofs.recipient_reading.both.Goals as goal

pub returns-in_err-recipients : goal.returns-in_err-recipients
returns-in_err-recipients c = λ origin front back read refused more_read more_refused.
    let p = err_from_is_err_and c.from_residual.result c.from_residual.ensures.1 in
    rw (p.1, p.2) (tt, first_refused origin (front ++ back) front back refl _ (IfErr-at_err (Stops (first_bad_recipient origin front)) {r = c.args.here} c.in_err-recipients.was refused))

pub returns-in_err-more : goal.returns-in_err-more
returns-in_err-more c = λ origin front back read refused more_read more_refused.
    let p = err_from_is_err_and c.from_residual-in_err-more.result c.from_residual-in_err-more.ensures.1 in
    rw (p.1, p.2) (
      tt,
      second_refused origin (front ++ back) front back refl c.in_ok-recipients.recipients.items _
          (IfOk-at_ok (λ v. AreRecipientsOf origin front v.items) {r = c.args.here} c.in_ok-recipients.was read)
          (IfErr-at_err (Stops (first_bad_recipient origin back)) {r = c.args.there} c.in_err-more.was more_refused),
    )

pub returns : goal.returns
returns c = λ origin front back read refused more_read more_refused. (
  both_read origin (front ++ back) front back refl c.in_ok-recipients.recipients.items c.in_ok-more.more.items _ c.in_ok-append.ensures.items
      (IfOk-at_ok (λ v. AreRecipientsOf origin front v.items) {r = c.args.here} c.in_ok-recipients.was read)
      (IfOk-at_ok (λ v. AreRecipientsOf origin back v.items) {r = c.args.there} c.in_ok-more.was more_read),
  tt,
)
