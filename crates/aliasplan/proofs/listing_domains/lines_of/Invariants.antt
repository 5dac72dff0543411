use Rattle.std.proofs.Common.{◌≡◌, take}
use Rattle.relay_wire.specs.PlanText.{lines_of}
use Rattle.aliasplan.proofs.listing_domains.lines_of.Given as goal

abbrev pub invariant-loop-name : goal.invariant-loop-name
invariant-loop-name l = l.text.items ≡ lines_of (take l.name-index l.names)
