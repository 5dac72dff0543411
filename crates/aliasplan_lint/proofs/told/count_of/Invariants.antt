use Rattle.std.proofs.Common.{◌≡◌, ◌≤◌, length, take}
use Rattle.std.specs.Prelude.{filter}
use Rattle.aliasplan_lint.specs.Lints.{has_severity}
use Rattle.aliasplan_lint.proofs.told.count_of.Given as goal

-- those so far are counted
abbrev pub invariant-loop-lint : goal.invariant-loop-lint
invariant-loop-lint l = record {
  counts : l.count ≡ length (filter (has_severity l.severity) (take l.lint-index l.lints));
  few : l.count ≤ l.lint-index;
}
