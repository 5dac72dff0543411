use Rattle.relay_destinations.proofs.numbered_routes.NumberedRoutes.find_mailbox.Goals as goal

pub find_destination-requires : goal.find_destination-requires
find_destination-requires c route h =
    (c.route_by_destination.ensures.of_mailbox c.args.self.now.found.routing c.self.inside.via.now c.args.address.now).kept c.in-Ok.to route c.in-Ok.ensures h
