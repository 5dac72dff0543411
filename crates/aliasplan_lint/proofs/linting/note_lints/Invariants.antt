use Rattle.std.proofs.Common.{◌≡◌, length, All}
use Rattle.aliasplan_lint.specs.Tells.{IsNote}
use Rattle.aliasplan_lint.proofs.linting.note_lints.Given as goal

abbrev pub invariant-loop-note : goal.invariant-loop-note
invariant-loop-note l = record {
  each : length l.lints.items ≡ l.note-index;
  alone : All IsNote l.lints.items;
}
