use Rattle.std.proofs.Common.{◌≡◌, ◌+◌, length, take, ◌≤◌}
use Rattle.std.specs.List.{suffix_len}
use Rattle.relay_text.specs.Bytes.{is_white}
use Rattle.relay_text.proofs.scan.trimmed_end.Given as goal

-- What was passed from the end back is white.
abbrev pub invariant-loop-end : goal.invariant-loop-end
invariant-loop-end l = record {
  inside : l.end ≤ length l.text;
  passed : l.end + suffix_len is_white l.text ≡ length l.text + suffix_len is_white (take l.end l.text);
}

abbrev pub decreases-loop-end : goal.decreases-loop-end
decreases-loop-end l = l.end
