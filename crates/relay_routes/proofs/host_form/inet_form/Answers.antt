use Rattle.relay_routes.proofs.NexthopFacts.{inet_none}
use Rattle.relay_routes.proofs.host_form.inet_form.Goals as goal

pub returns-in-None : goal.returns-in-None
returns-in-None c = inet_none c.args.text.now c.in_ok-named.named.now c.in_ok-named.ensures c.in-None.ensures
