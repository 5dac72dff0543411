use Rattle.std.proofs.Common.{◌∙◌}
use Rattle.relay_routes.proofs.KeyFacts.{found_parent, found_star}
use Rattle.relay_routes.proofs.transport_table.TransportTable.found_at_domain.Goals as goal

pub returns-in-Some-found_at_parent : goal.returns-in-Some-found_at_parent
returns-in-Some-found_at_parent c = found_parent c.args.self.now.entries c.args.domain.now c.in-Some-found_at_parent.result.now c.in_default.ensures c.in-Some-found_at_parent.ensures

pub returns-in-None : goal.returns-in-None
returns-in-None c = c.result_at-in-None.ensures ∙ found_star c.args.self.now.entries c.args.domain.now c.in_default.ensures c.in-None.ensures
