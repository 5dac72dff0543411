use Rattle.std.proofs.Common.{◌≡◌, drop}
use Rattle.std.specs.Char.{is_ascii_graphic}
use Rattle.std.specs.List.{list_all}
use Rattle.relay_routes.proofs.form.all_graphic.Given as goal

-- the bytes that are left pass where all bytes do
abbrev pub invariant-loop-byte : goal.invariant-loop-byte
invariant-loop-byte l = list_all is_ascii_graphic (drop l.byte-index l.text) ≡ list_all is_ascii_graphic l.text
