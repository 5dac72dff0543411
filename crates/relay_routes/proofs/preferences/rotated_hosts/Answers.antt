use Rattle.std.proofs.Common.{rules, arith, ◌≡◌, ◌∙◌, ◌<◌, ◌≤◌, [], ℕ, List, Bor, length, drop, map, ap}
use Rattle.std.specs.Str.{bytes_eq}
use Rattle.std.proofs.lemmas.List.{length-map, drop_all}
use Rattle.relay_text.specs.Bytes.{firsts}
use Rattle.relay_routes.specs.declared.exchange.Exchange.{Exchange}
use Rattle.relay_routes.specs.Exchanges.{rotated}
use Rattle.relay_routes.specs.Preferences.{exchanges_of, with_hosts}
use Rattle.relay_routes.proofs.FirstHosts.{firsts-some, with_hosts-none}
use Rattle.relay_routes.proofs.preferences.rotated_hosts.Goals as goal

abbrev hosts_of_run : List (Bor Exchange) → List (List ℕ)
hosts_of_run run = map (λ e. e.host) (exchanges_of run)

-- what is found once no exchanger is left: distinct hosts, and some
found : (run : List (Bor Exchange)) (n : ℕ) (so_far hosts : List (List ℕ)) → length run ≤ n → hosts ≡ so_far
    → with_hosts so_far (map (λ e. e.host) (exchanges_of (drop n run))) ≡ with_hosts [] (hosts_of_run run) → hosts ≡ firsts bytes_eq (hosts_of_run run)
found run n so_far hosts over same kept =
    let ended = drop_all n run over in
    let made : so_far ≡ with_hosts [] (hosts_of_run run) = rw ended at kept in
    same ∙ made ∙ with_hosts-none (hosts_of_run run)

some : (run : List (Bor Exchange)) (hosts : List (List ℕ)) → 0 < length run → hosts ≡ firsts bytes_eq (hosts_of_run run) → 0 < length hosts
some run hosts is_some distinct =
    let es = exchanges_of run in
    let all : 0 < length (hosts_of_run run) = omega (arith, is_some, length-map es (λ (e : Exchange). e.host), length-map run (λ r. r.now)) in
    omega (arith, firsts-some bytes_eq (hosts_of_run run) all, ap length distinct)

pub nonzero_rem-turn : goal.nonzero_rem-turn
nonzero_rem-turn c =
    let distinct = found c.args.run.now c.loop-exchange.exchange-index c.loop-exchange.distinct c.into_vec-hosts.result.items c.loop-exchange-test.false c.into_vec-hosts.ensures c.loop-exchange.invariant in
    omega (arith, some c.args.run.now c.into_vec-hosts.result.items c.requires distinct, c.len.ensures, c.into_vec-hosts.result.ok.0)

pub rotate_left-requires : goal.rotate_left-requires
rotate_left-requires c =
    let distinct = found c.args.run.now c.loop-exchange.exchange-index c.loop-exchange.distinct c.into_vec-hosts.result.items c.loop-exchange-test.false c.into_vec-hosts.ensures c.loop-exchange.invariant in
    let positive : 0 < c.len.result = omega (arith, some c.args.run.now c.into_vec-hosts.result.items c.requires distinct, c.len.ensures, c.into_vec-hosts.result.ok.0) in
    omega (arith, c.len.ensures)

pub returns : goal.returns
returns c =
    let distinct = found c.args.run.now c.loop-exchange.exchange-index c.loop-exchange.distinct c.into_vec-hosts.result.items c.loop-exchange-test.false c.into_vec-hosts.ensures c.loop-exchange.invariant in
    let turned : c.rotate_left.new.self.items ≡ rotated c.args.seed c.into_vec-hosts.result.items = search rules in
    turned ∙ ap (rotated c.args.seed) distinct
