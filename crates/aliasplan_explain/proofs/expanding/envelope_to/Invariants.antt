use Rattle.std.proofs.Common.{◌≡◌, map, take}
use Rattle.aliasplan_explain.specs.Expansions.{recipient_for}
use Rattle.aliasplan_explain.proofs.expanding.envelope_to.Given as goal

abbrev pub invariant-loop-one : goal.invariant-loop-one
invariant-loop-one l = l.recipients.items ≡ map (recipient_for l.origin) (take l.one-index l.asked)
