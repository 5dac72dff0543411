use Rattle.std.proofs.Common.{◌≡◌, ◌++◌, length, IsTrue, map}
use Rattle.std.specs.List.{concat, list_all}
use Rattle.relay_text.specs.Addresses.{is_address}
use Rattle.relay_wire.specs.Script.{HasRecipients, recipient_line}
use Rattle.relay_wire.proofs.reading.read_recipients.Given as goal

-- What is read are recipients' lines, and where the text is a script's end, so is the rest.
abbrev pub invariant-loop-line : goal.invariant-loop-line
invariant-loop-line l = record {
  good : IsTrue (list_all is_address l.to.items);
  cut : l.bytes ≡ concat (map recipient_line l.to.items) ++ l.rest;
  goes_on : HasRecipients l.bytes → HasRecipients l.rest;
}

abbrev pub decreases-loop-line : goal.decreases-loop-line
decreases-loop-line l = length l.rest
