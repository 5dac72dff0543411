use Rattle.std.proofs.Common.{Result, sym, subst}
use Rattle.std.proofs.lemmas.Result.{on_ok_weaker}
use Rattle.relay_routes.specs.declared.route.Route.{Route}
use Rattle.relay_routes.specs.declared.unrouted.Unrouted.{Unrouted}
use Rattle.relay_routes.specs.Routes.{route_of}
use Rattle.relay_destinations.specs.Ways.{Means}
use Rattle.relay_planning.specs.Findings.{Reports}
use Rattle.relay_planning.specs.Routes.{IsLineAt}
use Rattle.relay_planning.proofs.outgoing.recipient_of.Goals as goal

pub returns-in_ok-way-in-Mailbox-clause-lines : goal.returns-in_ok-way-in-Mailbox-clause-lines
returns-in_ok-way-in-Mailbox-clause-lines g c =
    on_ok_weaker {P = (answer : Result Route Unrouted) → Means c.find_mailbox.new.self c.in_ok-way-in-Mailbox.way answer → Reports c.args.lines.now c.recipient_at.new.lines (IsLineAt answer c.in-Mailbox.address)} c.recipient_at.result
    (λ h. rw (c.in-Mailbox.is, sym c.requires.routing, sym c.requires.via) (h _ c.in_ok-way-in-Mailbox.ensures.way))
    c.recipient_at.ensures.lines

pub returns-in_ok-way-in-Remote-clause-lines : goal.returns-in_ok-way-in-Remote-clause-lines
returns-in_ok-way-in-Remote-clause-lines g c =
    on_ok_weaker {P = (answer : Result Route Unrouted) → Means c.find.new.self c.in_ok-way-in-Remote.way answer → Reports c.args.lines.now c.recipient_at-in-Remote.new.lines (IsLineAt answer c.in-Remote.address)} c.recipient_at-in-Remote.result
    (λ h. rw c.in-Remote.is (subst (λ r. Reports c.args.lines.now c.recipient_at-in-Remote.new.lines (IsLineAt (route_of r c.in-Remote.address) c.in-Remote.address)) c.requires.routing (h _ c.in_ok-way-in-Remote.ensures.way)))
    c.recipient_at-in-Remote.ensures.lines
