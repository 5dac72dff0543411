use Rattle.relay_tables.proofs.LocalParts.{address-at_origin}
use Rattle.relay_tables.proofs.leading.lead_named.Goals as goal

pub returns-in-Mailbox-clause-good : goal.returns-in-Mailbox-clause-good
returns-in-Mailbox-clause-good c =
    rw c.origin.ensures.origin (address-at_origin c.args.name.now c.args.tables.now.local.origin c.requires.local c.origin.ensures.valid)
