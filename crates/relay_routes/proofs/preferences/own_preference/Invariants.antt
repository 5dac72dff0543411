use Rattle.std.proofs.Common.{◌≡◌, drop}
use Rattle.relay_routes.specs.Preferences.{exchanges_of, least_own, least_own_from}
use Rattle.relay_routes.proofs.preferences.own_preference.Given as goal

-- the least so far and the exchangers left give the least of all
abbrev pub invariant-loop-exchange : goal.invariant-loop-exchange
invariant-loop-exchange l = least_own_from l.own_names l.least (exchanges_of (drop l.exchange-index l.exchangers)) ≡ least_own l.own_names (exchanges_of l.exchangers)
