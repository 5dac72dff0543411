use Rattle.std.proofs.Common.{◌≡◌, drop}
use Rattle.relay_text.specs.Bytes.{has_text}
use Rattle.relay_routes.proofs.mx_hosts.DistinctHosts.has.Given as goal

-- a host is among the texts that are left where it is among all
abbrev pub invariant-loop-text : goal.invariant-loop-text
invariant-loop-text l = has_text (drop l.text-index l.self) l.host ≡ has_text l.self l.host
