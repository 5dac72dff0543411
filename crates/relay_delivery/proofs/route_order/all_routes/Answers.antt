use Rattle.std.proofs.lemmas.Iterator.{YieldsList-from_slice}
use Rattle.std.proofs.lemmas.Iterator.Consumers.{map_from_collect}
use Rattle.relay_delivery.proofs.route_order.all_routes.Goals as goal

pub returns : goal.returns
returns c = map_from_collect _ c.collect.ensures.ran (YieldsList-from_slice c.args.routes.now cc)
