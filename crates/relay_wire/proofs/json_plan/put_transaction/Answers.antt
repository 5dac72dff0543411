use Rattle.std.proofs.Common.{codes, decimal, map, ◌∙◌}
use Rattle.relay_text.specs.Addresses.{path_text_of}
use Rattle.relay_routes.specs.Transports.{transport_name}
use Rattle.relay_wire.specs.Json.{json_array, json_key, json_string, json_strings}
use Rattle.relay_wire.specs.JsonPlan.{path_json}
use Rattle.relay_wire.proofs.JsonPieces.{six_members}
use Rattle.relay_wire.proofs.json_plan.put_transaction.Goals as goal

pub returns : goal.returns
returns c =
    let t = c.args.planned.now in
    c.in_ok-push.ensures.items
    ∙ rw (c.in_ok-put_recipients.ensures, c.in_ok-put_json_key-6.ensures, c.in_ok-put_json_strings.ensures, c.in_ok-put_json_key-5.ensures, c.in_ok-put_json_string-2.ensures, c.in_ok-put_json_key-4.ensures, c.in_ok-put_json_string.ensures, c.in_ok-put_json_key-3.ensures, c.in_ok-put_json_path.ensures, c.in_ok-put_json_key-2.ensures, c.in_ok-put_json_number.ensures, c.in_ok-put_json_key.ensures, c.as_slice-2.ensures, c.as_slice.ensures, c.as_bytes.ensures, c.name.ensures, c.as_ref.ensures.value)
    (six_members c.args.out.now.items
    (json_key (codes "transaction")) (decimal c.args.number)
    (json_key (codes "from")) (json_string (path_text_of t.from))
    (json_key (codes "transport")) (json_string (transport_name t.transport))
    (json_key (codes "nexthop")) (json_string t.nexthop)
    (json_key (codes "hosts")) (json_strings t.hosts)
    (json_key (codes "recipients")) (json_array (map path_json t.to)))
