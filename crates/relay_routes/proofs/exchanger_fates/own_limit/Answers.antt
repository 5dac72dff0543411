use Rattle.std.proofs.Common.{◌≡◌, map, filter, sym, ap, ◌∙◌}
use Rattle.std.proofs.lemmas.List.{take_all}
use Rattle.relay_routes.specs.Preferences.{exchanges_of, least_own}
use Rattle.relay_routes.proofs.HostChoices.{is_live}
use Rattle.relay_routes.proofs.ReadExchangers.{exchange_at}
use Rattle.relay_routes.proofs.Runs.{exchanges-filter}
use Rattle.relay_routes.proofs.exchanger_fates.own_limit.Goals as goal

pub returns : goal.returns
returns c =
    let all = c.args.exchangers.now in
    let found = c.loop-numbered.found.items in
    let every : exchanges_of found ≡ map exchange_at all = c.loop-numbered.invariant ∙ ap (map exchange_at) (take_all c.loop-numbered.numbered-index all c.loop-numbered-test.false) in
    let good : exchanges_of c.deref.result.now ≡ filter is_live (map exchange_at all) =
    ap exchanges_of (c.deref.ensures.value ∙ c.without_null-good.ensures) ∙ sym (exchanges-filter is_live found) ∙ ap (filter is_live) every in
    c.own_preference.ensures ∙ ap (least_own c.args.own_names.now) good
