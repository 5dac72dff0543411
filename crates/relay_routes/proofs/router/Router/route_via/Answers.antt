use Rattle.std.proofs.lemmas.Result.{err_from_is_err_and}
use Rattle.relay_routes.proofs.DestinationFacts.{of_mailbox, not_found, answered}
use Rattle.relay_routes.proofs.router.Router.route_via.Goals as goal

pub returns-in_err-to : goal.returns-in_err-to
returns-in_err-to c =
    let left = err_from_is_err_and c.from_residual.result c.from_residual.ensures.1 in
    not_found (of_mailbox c.args.self.now c.args.via.now c.args.address.now) left.1 left.2 c.in_err-to.ensures

pub returns : goal.returns
returns c = answered c.route_to-route.result (of_mailbox c.args.self.now c.args.via.now c.args.address.now) c.in_ok-to.ensures c.as_bytes.ensures c.route_to-route.ensures
