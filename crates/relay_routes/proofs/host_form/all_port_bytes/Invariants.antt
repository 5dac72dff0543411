use Rattle.std.proofs.Common.{◌≡◌, ◌==◌, ◌||◌, drop}
use Rattle.std.specs.Char.{is_ascii_alphanumeric}
use Rattle.std.specs.List.{list_all}
use Rattle.relay_routes.proofs.host_form.all_port_bytes.Given as goal

-- the bytes that are left pass where all bytes do
abbrev pub invariant-loop-byte : goal.invariant-loop-byte
invariant-loop-byte l = list_all (λ b. is_ascii_alphanumeric b || (b == 45)) (drop l.byte-index l.text) ≡ list_all (λ b. is_ascii_alphanumeric b || (b == 45)) l.text
