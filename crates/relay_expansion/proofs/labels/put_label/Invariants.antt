use Rattle.std.proofs.Common.{◌≡◌, ◌++◌, take}
use Rattle.relay_expansion.specs.Dots.{label_text}
use Rattle.relay_expansion.proofs.labels.put_label.Given as goal

abbrev pub invariant-loop-byte : goal.invariant-loop-byte
invariant-loop-byte l = l.out.items ≡ l.initial.out.items ++ label_text (take l.byte-index l.text)
