use Rattle.std.proofs.Common.{sym, subst}
use Rattle.relay_routes.specs.Routing.{Routing}
use Rattle.relay_routes.specs.Routes.{route_via_of}
use Rattle.relay_routes.specs.declared.via.Via.{Via}
use Rattle.relay_destinations.specs.Ways.{Means}
use Rattle.relay_destinations.proofs.ByDomain.{domains_kept, mailbox_more}
use Rattle.relay_destinations.proofs.destinations.Destinations.find_mailbox.Goals as goal

pub invariant_of-self : goal.invariant_of-self
invariant_of-self c = rw c.recall.ensures.kept c.self.invariant

pub invariant_of-self-in_err-way : goal.invariant_of-self-in_err-way
invariant_of-self-in_err-way c =
    let old = c.self.inside in
    rw c.recall.ensures.kept (domains_kept old.numbered.found c.find_mailbox.new.self.found old.goes_by_domain old.by_domain old.by_mailbox_domain c.self.invariant c.find_mailbox.ensures.kept)

pub invariant_of-self-in_err-keep : goal.invariant_of-self-in_err-keep
invariant_of-self-in_err-keep c =
    let old = c.self.inside in
    rw (c.in_err-keep.ensures.err, c.recall.ensures.kept) (domains_kept old.numbered.found c.find_mailbox.new.self.found old.goes_by_domain old.by_domain old.by_mailbox_domain c.self.invariant c.find_mailbox.ensures.kept)

pub invariant_of-self-2 : goal.invariant_of-self-2
invariant_of-self-2 c =
    let old = c.self.inside in
    let found = c.find_mailbox.new.self.found in
    let kept = c.find_mailbox.ensures.kept in
    let address = c.args.address.now in
    let way = c.in_ok-way.way in
    rw (c.in_ok-keep.ensures.ok, c.recall.ensures.kept, c.domain-2.ensures)
    (mailbox_more found old.goes_by_domain old.by_domain old.by_mailbox_domain address way
    (domains_kept old.numbered.found found old.goes_by_domain old.by_domain old.by_mailbox_domain c.self.invariant kept)
    (subst (λ (r : Routing). Means found way (route_via_of r found.via address)) (sym kept.routing)
    (subst (λ (v : Via). Means found way (route_via_of old.numbered.found.routing v address)) (sym kept.via) c.in_ok-way.ensures.way)))
