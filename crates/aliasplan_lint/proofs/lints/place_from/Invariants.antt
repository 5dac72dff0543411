use Rattle.std.proofs.Common.{◌≤◌, ◌-◌, length}
use Rattle.aliasplan_lint.proofs.lints.place_from.Given as goal

-- the place is between these
abbrev pub invariant-loop-low : goal.invariant-loop-low
invariant-loop-low l = record {
  below : l.low ≤ l.high;
  within : l.high ≤ length l.findings;
}

abbrev pub decreases-loop-low : goal.decreases-loop-low
decreases-loop-low l = l.high - l.low
