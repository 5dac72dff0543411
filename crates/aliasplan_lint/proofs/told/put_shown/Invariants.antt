use Rattle.std.proofs.Common.{◌≡◌, ◌++◌, take}
use Rattle.aliasplan_lint.specs.Texts.{shown}
use Rattle.aliasplan_lint.proofs.told.put_shown.Given as goal

abbrev pub invariant-loop-byte : goal.invariant-loop-byte
invariant-loop-byte l = l.out.items ≡ l.initial.out.items ++ shown (take l.byte-index l.text)
