use Rattle.std.proofs.Common.{◌≡◌, IfOk, subst}
use Rattle.relay_aliasfile.proofs.MailboxNames.{mailbox_file_read}
use Rattle.relay_aliasfile.proofs.mailboxes.parse_mailboxes_by.Goals as goal

pub returns : goal.returns
returns g c = subst (λ made. IfOk c.distinct_names.result (λ file. file ≡ made)) (mailbox_file_read c.args.bytes.now c.in_ok-lines.lines c.in_ok-lines.ensures) c.distinct_names.ensures
