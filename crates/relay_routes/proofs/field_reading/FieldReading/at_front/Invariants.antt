use Rattle.std.proofs.Common.{◌≡◌, ◌+◌, ◌==◌, ◌≤◌, drop, true, false}
use Rattle.relay_routes.specs.FieldReadings.{front_len, labels_from, capital_from}
use Rattle.relay_routes.proofs.field_reading.FieldReading.at_front.Given as goal

-- what is left goes on with what was passed
abbrev pub invariant-loop-len : goal.invariant-loop-len
invariant-loop-len l = record {
  behind : l.start ≤ l.len;
  passed : l.len + front_len (drop l.len l.text) ≡ front_len l.text;
  joined : labels_from l.is_joined (l.start == l.len) (drop l.len l.text) ≡ labels_from true true l.text;
  capital : capital_from l.has_capital (drop l.len l.text) ≡ capital_from false l.text;
}
