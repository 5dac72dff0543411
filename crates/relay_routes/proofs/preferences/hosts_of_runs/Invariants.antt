use Rattle.std.proofs.Common.{◌≡◌, ◌-◌, ◌≤◌, ◌++◌, length, drop, map}
use Rattle.relay_routes.specs.Exchanges.{in_preference_order}
use Rattle.relay_routes.specs.Preferences.{exchanges_of, IsRising}
use Rattle.relay_routes.proofs.preferences.hosts_of_runs.Given as goal

-- the hosts so far and those of the exchangers left make the hosts of all
abbrev pub invariant-loop-start : goal.invariant-loop-start
invariant-loop-start l = record {
  within : l.start ≤ length l.exchangers;
  rising : IsRising (map (λ e. e.preference) (exchanges_of (drop l.start l.exchangers)));
  made : l.hosts ++ in_preference_order l.seed (exchanges_of (drop l.start l.exchangers)) ≡ in_preference_order l.seed (exchanges_of l.exchangers);
}

abbrev pub decreases-loop-start : goal.decreases-loop-start
decreases-loop-start l = length l.exchangers - l.start
