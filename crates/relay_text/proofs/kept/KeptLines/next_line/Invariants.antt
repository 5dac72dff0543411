use Rattle.std.proofs.Common.{◌≡◌, length}
use Rattle.relay_text.specs.KeptLines.{kept_rest}
use Rattle.relay_text.proofs.kept.KeptLines.next_line.Given as goal

-- The lines that were passed are ignored.
abbrev pub invariant-loop-text : goal.invariant-loop-text
invariant-loop-text l = kept_rest l.self ≡ kept_rest l.initial.self

abbrev pub decreases-loop-text : goal.decreases-loop-text
decreases-loop-text l = length l.self.rest.now
