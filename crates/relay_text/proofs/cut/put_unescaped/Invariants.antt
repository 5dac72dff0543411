use Rattle.std.proofs.Common.{◌≡◌, ◌+◌, ◌≤◌, ◌++◌, false, drop, length, vec_len, vec_capacity}
use Rattle.relay_text.proofs.QuoteMarks.{kept_from}
use Rattle.relay_text.proofs.cut.put_unescaped.Given as goal

abbrev pub invariant-loop-byte : goal.invariant-loop-byte
invariant-loop-byte l = record {
  kept : l.text.items ++ kept_from l.escaped (drop l.byte-index l.content) ≡ l.initial.text.items ++ kept_from false l.content;
  room : vec_len l.text + length (kept_from l.escaped (drop l.byte-index l.content)) ≤ vec_capacity l.text;
}
