use Rattle.std.proofs.Common.{◌≡◌, ◌≤◌, ◌+◌, false, length, drop}
use Rattle.relay_text.proofs.QuoteMarks.{kept_from}
use Rattle.relay_text.proofs.cut.unescaped_len.Given as goal

abbrev pub invariant-loop-byte : goal.invariant-loop-byte
invariant-loop-byte l = (l.len ≤ l.byte-index) × (l.len + length (kept_from l.escaped (drop l.byte-index l.content)) ≡ length (kept_from false l.content))
