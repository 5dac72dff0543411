use Rattle.std.proofs.Common.{◌≡◌, ◌++◌, IsTrue, map, take}
use Rattle.std.specs.List.{concat, list_all}
use Rattle.relay_text.specs.Addresses.{is_address}
use Rattle.relay_wire.specs.Script.{recipient_line}
use Rattle.relay_wire.proofs.writing.put_recipient_commands.Given as goal

abbrev pub invariant-loop-address : goal.invariant-loop-address
invariant-loop-address l = record {
  text : l.out.items ≡ l.initial.out.items ++ concat (map recipient_line (take l.address-index l.to));
  valid : IsTrue (list_all is_address (take l.address-index l.to));
}
