use Rattle.std.proofs.Common.{sym, subst}
use Rattle.relay_routes.specs.Routing.{Routing}
use Rattle.relay_routes.specs.Routes.{route_of}
use Rattle.relay_destinations.specs.Ways.{Means}
use Rattle.relay_destinations.proofs.ByDomain.{domains_kept, address_more}
use Rattle.relay_destinations.proofs.destinations.Destinations.find.Goals as goal

pub invariant_of-self : goal.invariant_of-self
invariant_of-self c =
    let old = c.self.inside in
    domains_kept old.numbered.found c.find.new.self.found old.goes_by_domain old.by_domain old.by_mailbox_domain c.self.invariant c.find.ensures.kept

pub invariant_of-self-in_err-way : goal.invariant_of-self-in_err-way
invariant_of-self-in_err-way c =
    let old = c.self.inside in
    rw c.recall.ensures.kept (domains_kept old.numbered.found c.find-2.new.self.found old.goes_by_domain old.by_domain old.by_mailbox_domain c.self.invariant c.find-2.ensures.kept)

pub invariant_of-self-in_err-keep : goal.invariant_of-self-in_err-keep
invariant_of-self-in_err-keep c =
    let old = c.self.inside in
    rw (c.in_err-keep.ensures.err, c.recall.ensures.kept) (domains_kept old.numbered.found c.find-2.new.self.found old.goes_by_domain old.by_domain old.by_mailbox_domain c.self.invariant c.find-2.ensures.kept)

pub invariant_of-self-2 : goal.invariant_of-self-2
invariant_of-self-2 c =
    let old = c.self.inside in
    let found = c.find-2.new.self.found in
    let kept = c.find-2.ensures.kept in
    let address = c.args.address.now in
    let way = c.in_ok-way.way in
    rw (c.in_ok-keep.ensures.ok, c.recall.ensures.kept, c.domain-2.ensures)
    (address_more found old.goes_by_domain old.by_domain old.by_mailbox_domain address way
    (domains_kept old.numbered.found found old.goes_by_domain old.by_domain old.by_mailbox_domain c.self.invariant kept)
    c.if-not-self.false
    (subst (λ (r : Routing). Means found way (route_of r address)) (sym kept.routing) c.in_ok-way.ensures.way))
