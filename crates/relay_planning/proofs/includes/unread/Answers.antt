use Rattle.std.proofs.Common.{◌+◌, List, take, refl, sym, subst}
use Rattle.relay_planning.specs.Includes.{IsUnreadOf, AreReadings}
use Rattle.relay_planning.specs.declared.includes.IncludeReading.{IncludeReading}
use Rattle.relay_planning.proofs.IncludeFacts.{readings_more}
use Rattle.relay_planning.proofs.includes.unread.Goals as goal

pub loop-include-preserved : goal.loop-include-preserved
loop-include-preserved c =
    let includes = c.args.includes.now in
    let i = c.loop-include.include-index in
    subst (λ (readings : List IncludeReading). AreReadings IsUnreadOf (take (i + 1) includes) readings) (sym c.in_ok-push.ensures.items)
    (readings_more IsUnreadOf includes c.loop-include.readings.items i c.include-item.result _ c.loop-include-test.true c.include-item.is c.loop-include.invariant refl)
