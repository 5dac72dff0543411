use Rattle.std.proofs.Common.{rules, ◌∙◌, filter, ap}
use Rattle.std.proofs.lemmas.Fn.{filter_same}
use Rattle.relay_routes.specs.Preferences.{exchanges_of, is_within, least_own}
use Rattle.relay_routes.proofs.preferences.before_relay.Goals as goal

pub returns : goal.returns
returns c =
    filter_same _ (λ e. is_within c.own_preference-limit.result e.now.preference) _ (λ x b f' k. search rules) _ _ c.retain.ensures.filtered
    ∙ ap (λ limit. filter (λ e. is_within limit e.now.preference) c.args.exchangers.items)
    (c.own_preference-limit.ensures ∙ ap (λ rs. least_own c.args.own_names.now (exchanges_of rs)) c.deref.ensures.value)
