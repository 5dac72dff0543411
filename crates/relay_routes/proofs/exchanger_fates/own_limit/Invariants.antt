use Rattle.std.proofs.Common.{◌≡◌, map, take}
use Rattle.relay_routes.specs.Preferences.{exchanges_of}
use Rattle.relay_routes.proofs.exchanger_fates.own_limit.Given as goal

-- the exchangers so far
abbrev pub invariant-loop-numbered : goal.invariant-loop-numbered
invariant-loop-numbered l = exchanges_of l.found.items ≡ map (λ n. n.exchange) (take l.numbered-index l.exchangers)
