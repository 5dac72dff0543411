use Rattle.std.proofs.Common.{◌≡◌, ◌&&◌, not, drop}
use Rattle.std.specs.List.{list_all}
use Rattle.relay_text.specs.Bytes.{is_white}
use Rattle.relay_routes.specs.Transports.{is_result_byte}
use Rattle.relay_routes.proofs.transport_line.all_visible.Given as goal

-- the bytes that are left pass where all bytes do
abbrev pub invariant-loop-byte : goal.invariant-loop-byte
invariant-loop-byte l = list_all (λ b. is_result_byte b && not (is_white b)) (drop l.byte-index l.text) ≡ list_all (λ b. is_result_byte b && not (is_white b)) l.text
