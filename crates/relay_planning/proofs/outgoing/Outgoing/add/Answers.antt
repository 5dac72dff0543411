use Rattle.relay_planning.proofs.OutgoingFacts.{outgoing_none, outgoing_more}
use Rattle.relay_planning.proofs.outgoing.Outgoing.add.Goals as goal

pub returns-in_ok-push-clause-outgoing : goal.returns-in_ok-push-clause-outgoing
returns-in_ok-push-clause-outgoing g c pairs old =
    let h = c.in_ok-recipient.ensures in
    rw (c.in_ok-push.ensures.items, h.same.1) (outgoing_more c.args.job.now c.args.self.now.graph.now pairs c.args.self.now.known.items c.know.new.self.known.items c.args.self.now.deliveries.items old h.stay c.args.pair c.in_ok-recipient.field-0 h.there h.seen c.in-Recipient.recipient c.in-Recipient.is)

pub returns-in_default-clause-outgoing : goal.returns-in_default-clause-outgoing
returns-in_default-clause-outgoing g c pairs old =
    let h = c.in_ok-recipient.ensures in
    rw (h.same.1) (outgoing_none c.args.job.now c.args.self.now.graph.now pairs c.args.self.now.known.items c.know.new.self.known.items c.args.self.now.deliveries.items old h.stay c.args.pair c.in_ok-recipient.field-0 h.there h.seen c.in_default.not-Recipient)
