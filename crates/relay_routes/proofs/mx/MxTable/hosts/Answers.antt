use Rattle.relay_routes.proofs.OwnNames.{hosts_of-same}
use Rattle.relay_routes.proofs.mx.MxTable.hosts.Goals as goal

pub returns : goal.returns
returns c = rw (← hosts_of-same c.args.self.now c.args.domain.now c.in_ok-own_names.own_names c.args.own_names.now c.args.seed c.in_ok-own_names.ensures) c.hosts_beside.ensures
