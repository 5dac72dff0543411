use Rattle.relay_routes.proofs.DestinationFacts.{of_address, of_mailbox}
use Rattle.relay_routes.proofs.route.route_by_destination.Goals as goal

pub returns : goal.returns
returns c = record { of_address = of_address; of_mailbox = of_mailbox }
