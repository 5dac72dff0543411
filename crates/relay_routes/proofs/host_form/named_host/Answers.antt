use Rattle.std.proofs.Common.{◌∙◌, sym}
use Rattle.relay_routes.proofs.NameFacts.{bare_name}
use Rattle.relay_routes.proofs.host_form.named_host.Goals as goal

pub returns-then-is_domain_name : goal.returns-then-is_domain_name
returns-then-is_domain_name c = bare_name c.args.text.now (sym c.is_domain_name.ensures ∙ c.if-is_domain_name.true)
