use Rattle.std.proofs.Common.{◌≡◌, drop}
use Rattle.std.specs.List.{list_all}
use Rattle.relay_routes.specs.Transports.{is_result_byte}
use Rattle.relay_routes.proofs.transport_line.all_result_bytes.Given as goal

-- the bytes that are left pass where all bytes do
abbrev pub invariant-loop-byte : goal.invariant-loop-byte
invariant-loop-byte l = list_all is_result_byte (drop l.byte-index l.text) ≡ list_all is_result_byte l.text
