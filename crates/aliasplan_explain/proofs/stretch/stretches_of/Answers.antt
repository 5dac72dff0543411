use Rattle.std.proofs.Common.{◌+◌, ◌-◌, ◌≤◌, List, refl, sym, subst, arith}
use Rattle.std.proofs.Math.Nat.{min-le_right}
use Rattle.aliasplan_explain.specs.declared.stretch.Stretch.{Stretch}
use Rattle.aliasplan_explain.specs.Stretches.{AreStretches}
use Rattle.aliasplan_explain.proofs.StretchFacts.{stretches_more}
use Rattle.aliasplan_explain.proofs.stretch.stretches_of.Goals as goal

pub loop-start-preserved : goal.loop-start-preserved
loop-start-preserved c =
    let start = c.loop-start.start in
    let end = c.loop-start.start + c.min.result in
    let s : Stretch = record { start = start; end = end } in
    let order : start ≤ end = omega arith in
    let within : c.min.result ≤ c.args.items - start = subst (λ n. n ≤ c.args.items - start) (sym c.min.ensures) (min-le_right c.max-size.result (c.args.items - start)) in
    record {
      cut = subst (λ (ss : List Stretch). AreStretches 0 ss end) (sym c.in_ok-push.ensures.items) (stretches_more 0 start end c.loop-start.stretches.items c.loop-start.invariant.cut s refl order refl);
      within = omega (arith, within, c.loop-start.invariant.within);
      some = c.loop-start.invariant.some;
    }
