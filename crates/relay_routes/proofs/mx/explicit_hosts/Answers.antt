use Rattle.std.proofs.Common.{◌≡◌, ◌∙◌, ◌<◌, List, length, filter, ap, sym, arith}
use Rattle.std.proofs.lemmas.Bool.Decides.{nat_tests}
use Rattle.std.proofs.lemmas.List.{length-map}
use Rattle.relay_routes.specs.declared.exchange.Exchange.{Exchange}
use Rattle.relay_routes.specs.Exchanges.{hosts_before_relay, is_before_relay}
use Rattle.relay_routes.specs.Preferences.{exchanges_of}
use Rattle.relay_routes.proofs.Runs.{exchanges-filter}
use Rattle.relay_routes.proofs.HostChoices.{is_live, none_but_null, kept_before_relay, no_hosts, hosts_left, hosts_of_some}
use Rattle.relay_routes.proofs.mx.explicit_hosts.Goals as goal

pub returns-then-is_empty : goal.returns-then-is_empty
returns-then-is_empty c =
    let es = exchanges_of c.args.found.items in
    let left = c.without_null-exchangers.result in
    let live : exchanges_of left.items ≡ filter is_live es = ap exchanges_of c.without_null-exchangers.ensures ∙ sym (exchanges-filter is_live c.args.found.items) in
    let none : length left.items ≡ 0 = grind (arith, nat_tests, left.ok.0) in
    let all : length (filter is_live es) ≡ 0 = sym (ap length live) ∙ length-map left.items (λ r. r.now) ∙ none in
    let some : 0 < length es = omega (arith, c.requires, length-map c.args.found.items (λ r. r.now)) in
    λ domain has_address. ap (λ found. hosts_before_relay found c.args.own_names.now c.args.seed) (none_but_null es some all domain has_address)

pub returns-then-is_empty-2 : goal.returns-then-is_empty-2
returns-then-is_empty-2 c =
    let es = exchanges_of c.args.found.items in
    let left = c.without_null-exchangers.result in
    let live : exchanges_of left.items ≡ filter is_live es = ap exchanges_of c.without_null-exchangers.ensures ∙ sym (exchanges-filter is_live c.args.found.items) in
    let some : 0 < length left.items = grind (arith, nat_tests, left.ok.0) in
    let any : 0 < length (filter is_live es) = omega (arith, ap length live, length-map left.items (λ r. r.now)) in
    let kept = ap exchanges_of c.before_relay-exchangers.ensures ∙ kept_before_relay c.args.own_names.now left.items ∙ ap (λ (xs : List Exchange). filter (is_before_relay c.args.own_names.now xs) xs) live in
    let none : length c.in_ok-hosts.hosts ≡ 0 = grind (arith, nat_tests) in
    λ domain has_address.
    hosts_of_some es (exchanges_of c.before_relay-exchangers.result.items) c.in_ok-hosts.hosts c.args.own_names.now c.args.seed any kept c.in_ok-hosts.ensures domain has_address
    ∙ no_hosts c.in_ok-hosts.hosts none

pub returns : goal.returns
returns c =
    let es = exchanges_of c.args.found.items in
    let left = c.without_null-exchangers.result in
    let live : exchanges_of left.items ≡ filter is_live es = ap exchanges_of c.without_null-exchangers.ensures ∙ sym (exchanges-filter is_live c.args.found.items) in
    let some : 0 < length left.items = grind (arith, nat_tests, left.ok.0) in
    let any : 0 < length (filter is_live es) = omega (arith, ap length live, length-map left.items (λ r. r.now)) in
    let kept = ap exchanges_of c.before_relay-exchangers.ensures ∙ kept_before_relay c.args.own_names.now left.items ∙ ap (λ (xs : List Exchange). filter (is_before_relay c.args.own_names.now xs) xs) live in
    let some_host : 0 < length c.in_ok-hosts.hosts = grind (arith, nat_tests) in
    λ domain has_address.
    hosts_of_some es (exchanges_of c.before_relay-exchangers.result.items) c.in_ok-hosts.hosts c.args.own_names.now c.args.seed any kept c.in_ok-hosts.ensures domain has_address
    ∙ hosts_left c.in_ok-hosts.hosts some_host
