use Rattle.std.proofs.Common.{◌≡◌, ◌<◌, [], ◌∷◌, ◌++◌, length, subst, arith}
use Rattle.relay_delivery.specs.declared.routed.Routed.{Routed}
use Rattle.relay_planning.specs.declared.outgoing.Known.TheVariants.{Unrouted as NoRoute, Recipient}
use Rattle.relay_planning.specs.Routes.{IsRecipientIfAny}
use Rattle.relay_planning.proofs.KnownFacts.{get_set_same, stay_set, known_after, grows_itself, grows_push, recipient_pushed, routed_inside, routed_push}
use Rattle.relay_planning.proofs.outgoing.Outgoing.settle.Goals as goal
use Rattle.relay_planning.proofs.outgoing.Outgoing.settle.Goals.{in-Some+in_ok-push-in-Some, in-None}

pub returns-clause-known : goal.returns-clause-known
returns-clause-known g c =
    let job = c.args.job.now in
    let old = c.args.self.now in
    let g = old.graph.now in
    let found = c.recipient_of.new.destinations in
    let more = c.in_ok-recipient.ensures.kept.routes in
    let within : c.args.node < length old.known.items = omega (arith, c.requires.known.len, c.requires.node) in
    let is : IsRecipientIfAny job found.routes c.node-at.result.now c.in_ok-recipient.recipient = c.in_ok-recipient.ensures.recipient in
    elim c.match-recipient.branch [
      | in-Some+in_ok-push-in-Some w ↦
          let r : Routed = w.in-Some.routed in
          let number : w.len-number.result ≡ length old.recipients.items = omega (arith, w.len-number.ensures) in
          let routed = subst (λ o. IsRecipientIfAny job found.routes c.node-at.result.now o) w.in-Some.is is in
          rw (w.self-is, w.known-is, w.in_ok-push-in-Some.ensures.items)
          (known_after job g c.args.destinations.now.routes found.routes old.recipients.items (old.recipients.items ++ r ∷ []) old.known.items c.args.lines.now c.recipient_of.new.lines c.args.node c.node-at.result.now (Recipient w.len-number.result)
          c.requires.known more (grows_push old.recipients.items r) (routed_push job g c.args.destinations.now.routes found.routes old.recipients.items c.node-at.result.now r more c.requires.known.in_routes routed)
          c.in_ok-recipient.ensures.lines c.node-at.ensures within
          (recipient_pushed job g found.routes old.recipients.items c.node-at.result.now r w.len-number.result number routed))
      | in-None w ↦
          let none = subst (λ o. IsRecipientIfAny job found.routes c.node-at.result.now o) w.in-None.is is in
          rw (w.self-is, w.known-is)
          (known_after job g c.args.destinations.now.routes found.routes old.recipients.items old.recipients.items old.known.items c.args.lines.now c.recipient_of.new.lines c.args.node c.node-at.result.now NoRoute
          c.requires.known more (grows_itself old.recipients.items) (routed_inside job g c.args.destinations.now.routes found.routes old.recipients.items more c.requires.known.in_routes)
          c.in_ok-recipient.ensures.lines c.node-at.ensures within none)
    ]

pub returns-clause-there : goal.returns-clause-there
returns-clause-there g c =
    let within : c.args.node < length c.args.self.now.known.items = omega (arith, c.requires.known.len, c.requires.node) in
    elim c.match-recipient.branch [
      | in-Some+in_ok-push-in-Some w ↦ rw (w.self-is) (get_set_same c.args.self.now.known.items c.args.node c.match-recipient.known within)
      | in-None w ↦ rw (w.self-is) (get_set_same c.args.self.now.known.items c.args.node c.match-recipient.known within)
    ]

pub returns-clause-stay : goal.returns-clause-stay
returns-clause-stay g c =
    elim c.match-recipient.branch [
      | in-Some+in_ok-push-in-Some w ↦ rw (w.self-is) (stay_set c.args.self.now.known.items c.args.node c.match-recipient.known c.requires.unseen)
      | in-None w ↦ rw (w.self-is) (stay_set c.args.self.now.known.items c.args.node c.match-recipient.known c.requires.unseen)
    ]
