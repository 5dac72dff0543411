use Rattle.relay_routes.proofs.LineHosts.{hosts_are}
use Rattle.relay_routes.proofs.exchanger_fates.hosts_by_lines.Goals as goal

pub returns : goal.returns
returns c = hosts_are
