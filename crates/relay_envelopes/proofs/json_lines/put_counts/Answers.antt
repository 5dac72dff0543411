use Rattle.std.proofs.Common.{codes, decimal, ◌∙◌}
use Rattle.relay_wire.specs.Json.{json_key}
use Rattle.relay_envelopes.proofs.JsonLineFacts.{four_members}
use Rattle.relay_envelopes.proofs.json_lines.put_counts.Goals as goal

pub returns : goal.returns
returns c =
    let n = c.args.counts.now in
    c.in_ok-push.ensures.items
    ∙ rw (c.in_ok-put_json_number-4.ensures, c.in_ok-put_json_key-4.ensures, c.in_ok-put_json_number-3.ensures, c.in_ok-put_json_key-3.ensures, c.in_ok-put_json_number-2.ensures, c.in_ok-put_json_key-2.ensures, c.in_ok-put_json_number.ensures, c.in_ok-put_json_key.ensures)
    (four_members c.args.out.now.items
    (json_key (codes "envelopes")) (decimal n.envelopes)
    (json_key (codes "planned")) (decimal n.planned)
    (json_key (codes "refused")) (decimal n.refused)
    (json_key (codes "findings")) (decimal n.findings))
