use Rattle.std.proofs.Common.{◌≡◌, ◌+◌, ◌-◌, ◌≤◌, drop, length}
use Rattle.std.specs.Prelude.{nat_eq}
use Rattle.std.specs.List.{common_prefix_len}
use Rattle.relay_wire.proofs.shared_front.common_front.Given as goal

-- so many bytes are the same, and those left that are
abbrev pub invariant-loop-len : goal.invariant-loop-len
invariant-loop-len l = record {
  in_text : l.len ≤ length l.text;
  in_other : l.len ≤ length l.other;
  same : l.len + common_prefix_len nat_eq (drop l.len l.text) (drop l.len l.other) ≡ common_prefix_len nat_eq l.text l.other;
}

abbrev pub decreases-loop-len : goal.decreases-loop-len
decreases-loop-len l = length l.text - l.len
