use Rattle.std.proofs.Common.{◌≡◌, ◌+◌, false, drop}
use Rattle.relay_text.proofs.QuoteMarks.{quote_place}
use Rattle.relay_text.proofs.cut.closing_place.Given as goal

abbrev pub invariant-loop-place : goal.invariant-loop-place
invariant-loop-place l = l.place + quote_place l.escaped (drop l.place l.bytes) ≡ quote_place false l.bytes
