use Rattle.std.proofs.Common.{◌≡◌, [], drop, map}
use Rattle.relay_routes.specs.Preferences.{exchanges_of, with_hosts}
use Rattle.relay_routes.proofs.preferences.rotated_hosts.Given as goal

-- the hosts so far and those of the exchangers left make the hosts of all
abbrev pub invariant-loop-exchange : goal.invariant-loop-exchange
invariant-loop-exchange l = with_hosts l.distinct (map (λ e. e.host) (exchanges_of (drop l.exchange-index l.run))) ≡ with_hosts [] (map (λ e. e.host) (exchanges_of l.run))
