use Rattle.std.proofs.Common.{◌≡◌}
use Rattle.std.specs.Prelude.{filter}
use Rattle.aliasplan_lint.specs.Tells.{keeps_lint}
use Rattle.aliasplan_lint.proofs.linting.kept.Given as goal

abbrev pub invariant-loop-lint : goal.invariant-loop-lint
invariant-loop-lint l = l.kept.items ≡ filter (keeps_lint l.options) l.yielded
