use Rattle.std.proofs.Common.{rules, not}
use Rattle.std.proofs.lemmas.List.Elements.{filter_from_retain}
use Rattle.relay_routes.specs.Exchanges.{is_null}
use Rattle.relay_routes.proofs.preferences.without_null.Goals as goal

pub returns : goal.returns
returns c = filter_from_retain _ (λ e. not (is_null e.now)) (λ p x b q k. search rules) _ _ _ c.retain.ensures.filtered
